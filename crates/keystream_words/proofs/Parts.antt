-- A buffer worked over in parts, one after the other, and bytes within one word.
use mathlib.Core.Path.{◌≡◌, refl, ap, ◌∙◌}
use mathlib.Core.List.{List}
use Prim.Native.Nat.{ℕ, ◌+◌, ◌-◌, ◌*◌, ◌/◌, ◌%◌, ◌<◌, ◌≤◌}
use native.Mathlib.Omega.{arith}
use Rattle.std.proofs.Math.Nat.{add-mul, one-mul, mul-le-mul_right, div-mul-le_self, dvd-mul_left_of_dvd, dvd_of_mod-eq-zero, mod-eq-zero_of_dvd}
use borrow.Rule.Slice.PartMut.{put_mid}
use lib.ListN.{length, take, drop, length-take, length-drop}
use Rattle.generator.specs.declared.State.{State}
use Rattle.generator.specs.declared.Stepped.{Stepped}
use Rattle.generator.specs.Registers.{Registers, registers_of, walked, stepped_by}
use Rattle.generator.proofs.Iterate.{walked_on, stepped_state, stepped_word}
use Rattle.masking.specs.Masking.{byte_at, masked}
use Rattle.masking.proofs.Masked.{partly, partly_all, partly_length, partly_rest, partly_put, masked_ext, masked_length}
use Rattle.keystream_words.specs.Keystream.{stream_byte, KeystreamOver, KeystreamUpTo}
use Rattle.keystream_words.proofs.Stream.{stream_from, masked_within}

module _ {f : Registers → Registers} {p : ℕ} {s : State} {b : List ℕ} where
  pub none_done : p < 8 → KeystreamUpTo 0 f p s b s b
  none_done h = let e : 0 ≡ (p + 0) / 8 = omega arith in record { within = omega arith; state = ap (λ (n : ℕ). walked f n s) e; bytes = refl }

  module _ {i : ℕ} {t : State} {buffer : List ℕ} (d : KeystreamUpTo i f p s b t buffer) where
    pub done_length : length buffer ≡ length b
    done_length = ap length d.bytes ∙ partly_length (stream_byte f (registers_of s)) p b i d.within

    pub all_done : length b ≤ i → KeystreamOver f p s b t buffer
    all_done h =
        let e : i ≡ length b = omega (arith, d.within) in
        record { state = d.state ∙ ap (λ (n : ℕ). walked f ((p + n) / 8) s) e; bytes = d.bytes ∙ partly_all (stream_byte f (registers_of s)) p b i e }

    -- the part from i up to e
    module _ (e : ℕ) (ie : i ≤ e) (el : e ≤ length b) where
      as_long : length (take (e - i) (drop i buffer)) ≡ e - i
      as_long = simp (length-take, length-drop) (omega (arith, done_length))

      pub part_done : {q : ℕ} {u : State} {ys : List ℕ} → q ≡ (p + i) % 8 → KeystreamOver f q t (take (e - i) (drop i buffer)) u ys → KeystreamUpTo e f p s b u (put_mid i (e - i) buffer ys)
      part_done {q} {u} {ys} eq a =
          let g = stream_byte f (registers_of s) in
          let sum : i + (e - i) ≡ e = omega arith in
          let steps : (p + i) / 8 + (q + (e - i)) / 8 ≡ (p + e) / 8 = omega arith in
          let rest : take (e - i) (drop i buffer) ≡ take (e - i) (drop i b) = ap (λ (l : List ℕ). take (e - i) (drop i l)) d.bytes ∙ ap (take (e - i)) (partly_rest g p b i d.within) in
          let agree : (j : ℕ) → stream_byte f (registers_of t) (q + j) ≡ g (p + i + j) =
          λ j. rw (d.state, eq) (stream_from f (registers_of s) (p + i) j) in
          let ey : ys ≡ masked g (p + i) (take (e - i) (drop i b)) =
          a.bytes ∙ ap (masked (stream_byte f (registers_of t)) q) rest ∙ masked_ext (stream_byte f (registers_of t)) g q (p + i) (take (e - i) (drop i b)) (λ j h. agree j) in
          record {
            within = el;
            state = walked_on f s ((p + i) / 8) ((q + (e - i)) / 8) ((p + e) / 8) d.state (rw as_long at a.state) steps;
            bytes = rw d.bytes (partly_put g p b i d.within (e - i) (omega arith) ey ∙ ap (partly g p b) sum);
          }

-- lines of m bytes: k of them are done, and one more
module _ {f : Registers → Registers} {s t u : State} {b buffer ys : List ℕ} (m k : ℕ) where
  pub line_done : m % 8 ≡ 0 → k < length b / m → KeystreamUpTo (k * m) f 0 s b t buffer → KeystreamOver f 0 t (take (k * m + m - k * m) (drop (k * m) buffer)) u ys → KeystreamUpTo ((k + 1) * m) f 0 s b u (put_mid (k * m) (k * m + m - k * m) buffer ys)
  line_done whole h d a =
      let more : (k + 1) * m ≡ k * m + m = add-mul k 1 m ∙ ap (λ (n : ℕ). k * m + n) (one-mul m) in
      let all : (k + 1) * m ≤ length b / m * m = mul-le-mul_right m (omega (arith, h)) in
      let room : k * m + m ≤ length b = omega (arith, more, all, div-mul-le_self (length b) m) in
      let aligned : k * m % 8 ≡ 0 = mod-eq-zero_of_dvd 8 (dvd-mul_left_of_dvd 8 (dvd_of_mod-eq-zero 8 whole) k) in
      rw more (part_done d (k * m + m) (omega arith) room (omega (arith, aligned)) a)

pub over_length : {f : Registers → Registers} {p : ℕ} {s t : State} {xs ys : List ℕ} → KeystreamOver f p s xs t ys → length ys ≡ length xs
over_length {f} {p} {s} {xs = xs} a = ap length a.bytes ∙ masked_length (stream_byte f (registers_of s)) p xs

-- ---- within one word

-- a step's word, over bytes of it: up to the word's end the state is the one after the step, before that the one before it
module _ (f : Registers → Registers) (s : State) (p : ℕ) (xs : List ℕ) {k : Stepped} {ys : List ℕ} (within : p + length xs ≤ 8)
    (ek : k ≡ stepped_by f s) (ey : ys ≡ masked (byte_at k.word) p xs) where
  by_step : ys ≡ masked (stream_byte f (registers_of s)) p xs
  by_step = ey ∙ ap (λ (z : ℕ). masked (byte_at z) p xs) (stepped_word f ek) ∙ masked_within f (registers_of s) p xs within

  pub stepped_over : p + length xs ≡ 8 → KeystreamOver f p s xs k.state ys
  stepped_over h =
      let one : 1 ≡ (p + length xs) / 8 = omega arith in
      record { state = stepped_state f ek ∙ ap (λ (n : ℕ). walked f n s) one; bytes = by_step }

  pub left_over : p + length xs < 8 → KeystreamOver f p s xs s ys
  left_over h = let none : 0 ≡ (p + length xs) / 8 = omega arith in record { state = ap (λ (n : ℕ). walked f n s) none; bytes = by_step }
