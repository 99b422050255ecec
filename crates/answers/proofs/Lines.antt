-- The tests compute whether the lines of document 01's table apply; the answer of a call.
use mathlib.Core.Path.{◌≡◌, refl, sym, subst}
use mathlib.Core.List.{List}
use Prim.Native.Nat.{ℕ, ◌+◌, ◌/◌}
use borrow.Author.Tests.{ne_eqb}
use lib.Dec.{T}
use lib.IntN.{ℤ, pos}
use lib.ListN.{length}
use Rattle.generator.specs.declared.State.{State}
use Rattle.refusals.specs.Numbers.{accepted, refused_key_length, refused_iv_length, refused_size_mark, refused_position_above, refused_window_past_end, refused_new_position_above, refused_new_position_below, refused_key_target_length}
use Rattle.refusals.specs.Tests.{Test, returned}
use Rattle.refusals.specs.Lines.{Line, numbers_of}
use Rattle.answers.specs.Tests.{limit, key_length_test, iv_length_test, size_mark_test, position_test, window_test, new_position, new_position_above_test, new_position_below_test, key_target_test, state_tests, answer_of}
use Rattle.answers.specs.Lines.{key_length_line, iv_length_line, size_mark_line, position_line, window_line, new_position_above_line, new_position_on_line, new_position_below_line, key_target_line, state_lines, RefusesExactly, LineLaws}
use Rattle.refusals.proofs.Tests.{numbered}
use Rattle.refusals.proofs.Lines.{Decides, DecideThen, DecideAll, first_line, none_applies, accepted_none, goes_up, lowest_first, refuses_in_order, neither, is_not, above, above_ℤ}

-- ---- demand 1 of a call

module _ (ts : List Test) (lines : List Line) (numbers : List ℕ) (made back : State) where
  pub refuses_exactly : T (numbered ts) → T (goes_up accepted numbers) → numbers_of lines ≡ numbers → DecideAll ts lines → RefusesExactly (answer_of ts made back) lines numbers back
  refuses_exactly n up order d =
      record {
        in_order = refuses_in_order ts lines numbers n order d;
        lowest = lowest_first (returned ts) accepted lines (subst (λ (l : List ℕ). T (goes_up accepted l)) (sym order) up) (first_line ts lines d);
        gives_back = λ h. rw (ne_eqb (returned ts) accepted h);
      }

-- ---- each test computes whether its line applies

pub key_length_decides : (key : List ℕ) → Decides (key_length_test key) (key_length_line key)
key_length_decides key = neither refused_key_length (length key) 32 64

pub iv_length_decides : (iv : List ℕ) → Decides (iv_length_test iv) (iv_length_line iv)
iv_length_decides iv = is_not refused_iv_length (length iv) 32

size_mark_decides : (s : State) → Decides (size_mark_test s) (size_mark_line s)
size_mark_decides s = neither refused_size_mark s.size 256 512

position_decides : (s : State) → Decides (position_test s) (position_line s)
position_decides s = above refused_position_above limit s.position

pub window_decides : (len start count : ℕ) → Decides (window_test len start count) (window_line len start count)
window_decides len start count = above refused_window_past_end len (start + count)

pub new_position_above_decides : (to : ℤ) → Decides (new_position_above_test to) (new_position_above_line to)
new_position_above_decides to = above_ℤ refused_new_position_above (pos limit) to

pub new_position_on_decides : (s : State) (n : ℕ) → Decides (new_position_above_test (new_position s (pos n))) (new_position_on_line s n)
new_position_on_decides s n = above refused_new_position_above limit (s.position + n)

pub new_position_below_decides : (to : ℤ) → Decides (new_position_below_test to) (new_position_below_line to)
new_position_below_decides to = above_ℤ refused_new_position_below to (pos 0)

pub key_target_decides : (s : State) (len : ℕ) → Decides (key_target_test s len) (key_target_line s len)
key_target_decides s len = is_not refused_key_target_length len (s.size / 8)

-- 3 and 4, before the rest
pub state_decides : (s : State) {Rest : Type 0} → Rest → DecideThen Rest (state_tests s) (state_lines s)
state_decides s rest = (size_mark_decides s, λ t3. (position_decides s, λ t4. rest))

-- ---- the laws

pub line_laws : LineLaws
line_laws =
    record {
      table_numbers = λ key iv s len n start to. refl;
      well_formed = λ s. none_applies (returned (state_tests s)) (state_lines s) (first_line (state_tests s) (state_lines s) (state_decides s tt));
      well_formed_only = λ s. accepted_none (state_tests s) (state_lines s) tt (state_decides s tt);
    }
