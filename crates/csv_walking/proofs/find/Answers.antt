-- `find` walks to the field.
use mathlib.Core.Path.{sym}
use Rattle.csv_walking.proofs.Walking.{visited}
use Rattle.csv_walking.proofs.Finding.{search_start, search_done, search_here, search_nowhere, search_later}
use Rattle.csv_walking.proofs.find.Goals as goal

pub fields-init : goal.fields-init
fields-init c = let g = c.args in search_start g.text.now g.row g.column _ c.start-w.ensures

pub returns-in-Here : goal.returns-in-Here
returns-in-Here c = search_here _ _ _ _ _ _ c.fields.invariant _ _ (sym c.in-Some.ensures) c.in-Here.ensures

pub returns-in-Nowhere : goal.returns-in-Nowhere
returns-in-Nowhere c = search_nowhere _ _ _ _ _ _ c.fields.invariant _ _ (sym c.in-Some.ensures) c.in-Nowhere.ensures

pub fields-smaller : goal.fields-smaller
fields-smaller c = (visited _ _ _ _ (sym c.in-Some.ensures)).1

pub fields-preserved : goal.fields-preserved
fields-preserved c = search_later _ _ _ _ _ _ c.fields.invariant _ _ (sym c.in-Some.ensures) _ _ c.in-Later.ensures

pub returns : goal.returns
returns c = search_done _ _ _ _ _ _ c.fields.invariant (sym c.in_default.ensures)
