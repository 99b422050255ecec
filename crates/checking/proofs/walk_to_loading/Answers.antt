-- `checking::walk_to_loading` meets its contract: the tables are those of T inverted and of α inverse.
use mathlib.Core.Path.{◌≡◌, ap, ◌∙◌}
use Prim.Native.Nat.{◌+◌, ◌/◌}
use Rattle.generator.specs.declared.Kind.TheVariants.{Ordinary, Initial}
use Rattle.generator.specs.Registers.{previous, walked}
use Rattle.generator.specs.Functions.{previous_by}
use Rattle.generator.proofs.GeneratorLaws.{backward_by_tables}
use Rattle.loading.specs.Recovery.{loaded_from}
use Rattle.checking.specs.Checking.{loaded_of}
use Rattle.checking.proofs.walk_to_loading.Goals as goal

pub returns : goal.returns
unfolding loaded_of loaded_from
returns c = let tables = c.back_tables-tables in
    let by = backward_by_tables tables.ensures.columns tables.ensures.bytes tables.ensures.inverse in
    let s = c.args.s in
    let step = previous_by tables.result.columns.now tables.result.bytes.now tables.result.inverse.now in
    let ordinary : c.backward-t.result ≡ walked (step Ordinary) (s.position / 8 + 1) s = c.backward-t.ensures in
    let initial : c.backward.result ≡ walked (step Initial) 32 c.backward-t.result = c.backward.ensures in
    initial ∙ by Initial 32 c.backward-t.result ∙ ap (walked (previous Initial) 32) (ordinary ∙ by Ordinary (s.position / 8 + 1) s)
