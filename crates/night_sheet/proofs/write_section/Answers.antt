-- `night_sheet::write_section` meets its contract: each array goes behind those before it. Assumes nothing.
use Rattle.night_sheet.proofs.Laws.{section_made}
use Rattle.night_sheet.proofs.write_section.Goals as goal

pub returns : goal.returns
returns c =
    let a = c.args in
    section_made a.amounts.now a.mults.now a.r.now a.d.now a.c.now a.b.now a.counts.now a.section.now
    c.told-amounts c.told-mults c.told-r c.told-d c.told-c c.told-b c.put.ensures c.put-2.ensures
    c.put-3.ensures c.put-4.ensures c.put-5.ensures c.put-6.ensures c.put-7.ensures
