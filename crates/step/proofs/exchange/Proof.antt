-- `step::exchange` meets its contract: the row solve, then the exchange. Assumes nothing.
use borrow.Author.Rules.{rules}
use mathlib.Core.Path.{refl}
use Rattle.rules.specs.Parts.{rowed}
use Rattle.basis_rows.proofs.Parts.{fresh_blank}
use Rattle.step_exchange.proofs.Laws.{inv_row_asks}
use Rattle.step.proofs.exchange.Statement.{statement}
use Rattle.step.proofs.exchange.Tie as tie

-- the way back from the row solve
abbrev entry : tie.After-inv_row-y_count → tie.Start
entry y = search

inv-row-requires : tie.Need-inv_row-y_count-requires
inv-row-requires c κs =
    let s : tie.Start = search in
    let q = inv_row_asks s.requires.0 s.args.x.row s.requires.1.1.2 in
    ((s.requires.0.sized, fresh_blank, q.0), q.1)

exchange-requires : tie.Need-exchange-requires
exchange-requires c κs =
    let y : tie.After-inv_row-y_count = search in
    let s = entry y in
    let a = s.args in
    let p = s.requires.1.1 in (
      s.requires.0,
      (
        s.requires.1.0,
        (
          p.0,
          p.1,
          p.2,
          record {
            marks = y.inv_row-y_count.new.marks;
            is = y.inv_row-y_count.ensures (rowed a.n a.starts.now a.cols.now a.coeffs.now a.kept.now) refl;
          },
        ),
      ),
    )

same_length : tie.Need-shape_of-numbers
same_length c = search rules

same-length-2 : tie.Need-shape_of-doubles
same-length-2 c = search rules

same-length-3 : tie.Need-shape_of-factor_numbers
same-length-3 c = search rules

same-length-4 : tie.Need-shape_of-factor_coeffs
same-length-4 c = search rules

returns : tie.Need-returns
returns c = let x : tie.After-exchange = search in x.exchange.ensures

pub exchange_spec : {M : Type 1} → statement M
exchange_spec =
    tie.close
    (tie.spec
    inv-row-requires
    exchange-requires
    same_length
    same-length-2
    same-length-3
    same-length-4
    returns)
