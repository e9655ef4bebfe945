-- `lu_packed::store` meets its contract: each call writes behind what stands already. Assumes nothing.
use Rattle.lu_factor_rules.specs.Counted.{factor_at}
use Rattle.lu_packed.proofs.Laws.{stored}
use Rattle.lu_packed.proofs.store.Goals as goal

pub returns : goal.returns
returns c =
    let g = c.args in
    let l = c.put_matrix.ensures.starts_len in
    let u = c.put_matrix-2.ensures.starts_len in
    let p = stored (factor_at g.m g.order.now g.number.now g.lstarts.now g.ustarts.now g.diag.now g.lrows.now g.lvals.now g.urows.now g.uvals.now)
    record {
      order_long = c.told-order;
      number_long = c.told-number;
      lower = record { starts_long = l.0; rows_long = l.1; vals_long = l.2 };
      upper = record { starts_long = u.0; rows_long = u.1; vals_long = u.2 };
      diag_long = c.told-diag;
    }
    g.numbers.now g.coeffs.now c.put.ensures c.put-2.ensures c.put_matrix.ensures.coeffs_after
    c.put_matrix-2.ensures.coeffs_after c.put_transpose.ensures c.put_transpose-2.ensures c.put-3.ensures in
    record { numbers_after = p.0; coeffs_after = p.1 }
