-- `cipher_io::pass_data` meets its contract, and ends: each piece but the last moves the position on, and no position is above the last one.
use Rattle.cipher_io.proofs.Pieces.{one_piece_more, falls, all_passed}
use Rattle.cipher_io.proofs.pass_data.Goals as goal

pub returns-in-Err : goal.returns-in-Err
returns-in-Err c = all_passed _ c.loop-stop.invariant c.pass_piece-passed.ensures c.in-Err.is

pub loop-stop-smaller : goal.loop-stop-smaller
loop-stop-smaller c = falls _ c.loop-stop.invariant c.pass_piece-passed.ensures c.in_default.is

pub loop-stop-preserved : goal.loop-stop-preserved
loop-stop-preserved c = one_piece_more _ c.loop-stop.invariant c.pass_piece-passed.ensures c.in_default.is
