-- `recovering::recover_key` meets its contract.
use mathlib.Core.Path.{◌∙◌}
use lib.ListN.{length}
use Rattle.recovering.proofs.KeyWords.{recovered_key_lem}
use Rattle.recovering.proofs.recover_key.Goals as goal

pub returns : goal.returns
returns c = let a = c.args in
    c.write_words.ensures ∙ recovered_key_lem (length a.key.now) a.iv.now a.cells c.words.ensures c.key_words.ensures
