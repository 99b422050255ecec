-- Document 01, "Worked table (all proved)": the eleven rows, each the words computed and the words expected, and one claim over all rows.
-- proofs/WorkedTable.antt has `worked_table : WorkedTable`.
use Rattle.std.specs.Prelude.{◌≡◌, List, [], ◌∷◌, ◌++◌, map, ℕ}
use Rattle.galois.specs.Words.{at}
use Rattle.galois.specs.Alpha.{alpha_table, alpha_inverse_table, alpha_times}
use Rattle.substitution.specs.Substitution.{substitute, substitute_inverse}
use Rattle.generator.specs.declared.Kind.{Kind}
use Rattle.generator.specs.declared.Kind.TheVariants.{Ordinary, Initial}
use Rattle.generator.specs.Registers.{Registers, cell, F, next}
use Rattle.loading.specs.Loading.{zeros, load}

pub record Worked : Type 0 where
  pub computed : List ℕ
  pub expected : List ℕ

abbrev ones : ℕ
ones = 0xFFFFFFFFFFFFFFFF

-- the eight bytes of a word below 256, most significant first
abbrev pub word_bytes : ℕ → List ℕ
word_bytes w = zeros 7 ++ (w ∷ [])

-- "256, key and IV all zero"
abbrev zero256 : Registers
zero256 = load (zeros 32) (zeros 32)

-- r1, r2 and s15 one step from there
abbrev stepped : Kind → List ℕ
stepped kind = (next kind zero256).r1 ∷ (next kind zero256).r2 ∷ cell (next kind zero256) 15 ∷ []

-- "512, all words zero but K4 = IV3 = IV1 = 1": K7 K6 K5 K4 K3 K2 K1 K0, and IV3 IV2 IV1 IV0
abbrev pub key11 : List ℕ
key11 = word_bytes 0 ++ word_bytes 0 ++ word_bytes 0 ++ word_bytes 1 ++ word_bytes 0 ++ word_bytes 0 ++ word_bytes 0 ++ word_bytes 0

abbrev pub iv11 : List ℕ
iv11 = word_bytes 1 ++ word_bytes 0 ++ word_bytes 1 ++ word_bytes 0

-- "the cells equal those for all zero, where s14, s11, s9, s7 are FFFFFFFFFFFFFFFF": s0 first
abbrev cells11 : List ℕ
cells11 = 0 ∷ 0 ∷ 0 ∷ 0 ∷ 0 ∷ 0 ∷ 0 ∷ ones ∷ 0 ∷ ones ∷ 0 ∷ ones ∷ 0 ∷ 0 ∷ ones ∷ 0 ∷ []

abbrev pub worked_rows : List Worked
worked_rows =
    -- 1. First table, entry 01: D73F04125E000004.
    record { computed = at alpha_table 0x01 ∷ []; expected = 0xD73F04125E000004 ∷ [] }
    -- 2. First table, entry 02: B37E0824BC000008.
    ∷ record { computed = at alpha_table 0x02 ∷ []; expected = 0xB37E0824BC000008 ∷ [] }
    -- 3. Second table, entry 01: 47FCC6018A990000.
    ∷ record { computed = at alpha_inverse_table 0x01 ∷ []; expected = 0x47FCC6018A990000 ∷ [] }
    -- 4. Second table, entry 02: 8EE59102092F0000.
    ∷ record { computed = at alpha_inverse_table 0x02 ∷ []; expected = 0x8EE59102092F0000 ∷ [] }
    -- 5. α times 47FCC6018A990000 is 0000000000000001.
    ∷ record { computed = alpha_times 0x47FCC6018A990000 ∷ []; expected = 0x0000000000000001 ∷ [] }
    -- 6. T(0) = 14E6CC3F14E6CC3F, and the inverse takes it to 0.
    ∷ record { computed = substitute 0 ∷ substitute_inverse 0x14E6CC3F14E6CC3F ∷ []; expected = 0x14E6CC3F14E6CC3F ∷ 0 ∷ [] }
    -- 7. F(FFFFFFFFFFFFFFFF, 1, 5) = 5.
    ∷ record { computed = F 0xFFFFFFFFFFFFFFFF 1 5 ∷ []; expected = 5 ∷ [] }
    -- 8. 256, key and IV all zero: s15, s13, s10, s7, s6 are FFFFFFFFFFFFFFFF, the other cells 0. (s0 first)
    ∷ record { computed = zero256.cells; expected = 0 ∷ 0 ∷ 0 ∷ 0 ∷ 0 ∷ 0 ∷ ones ∷ ones ∷ 0 ∷ 0 ∷ ones ∷ 0 ∷ 0 ∷ ones ∷ 0 ∷ ones ∷ [] }
    -- 9. One initialisation step from case 8: r1 = FFFFFFFFFFFFFFFF, r2 = 14E6CC3F14E6CC3F, s15 = 0.
    ∷ record { computed = stepped Initial; expected = 0xFFFFFFFFFFFFFFFF ∷ 0x14E6CC3F14E6CC3F ∷ 0 ∷ [] }
    -- 10. One ordinary step from case 8: the same r1 and r2, s15 = FFFFFFFFFFFFFFFF.
    ∷ record { computed = stepped Ordinary; expected = 0xFFFFFFFFFFFFFFFF ∷ 0x14E6CC3F14E6CC3F ∷ 0xFFFFFFFFFFFFFFFF ∷ [] }
    -- 11. 512, all words zero but K4 = IV3 = IV1 = 1: the cells equal those for all zero.
    ∷ record { computed = (load key11 iv11).cells ++ (load (zeros 64) (zeros 32)).cells; expected = cells11 ++ cells11 } ∷ []

-- what is computed is what is expected, in every row
abbrev pub WorkedTable : Type 0
WorkedTable = map (λ row. row.computed) worked_rows ≡ map (λ row. row.expected) worked_rows
