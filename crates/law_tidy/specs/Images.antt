-- Images that are tidy, and one that is not. Each has 64 KiB of RAM, no disk and no script.
use Rattle.std.specs.Prelude.{◌≡◌, ℕ, zero, suc, ◌+◌, ◌*◌, List, [], ◌∷◌, ◌++◌, slice_index_or}
use Rattle.byteorder.specs.Endian.{big_bytes}
use Rattle.mb_model.specs.Keeping.{Rule, rule_a, rule_k}
use Rattle.def_machine.specs.Machine.{Opening, diskless}
use Rattle.mb_walk.specs.Memory.{Contents}
use Rattle.def_runs.specs.Tidy.{Tidy}
use Rattle.law_tidy.specs.Laws.{outcome_by}

-- ---- images of words

abbrev pub words : List ℕ → List ℕ
words [] = []
words (word ∷ rest) = big_bytes 2 word ++ words rest

-- code at 400 and what else there is, with ISP 10000 at reset
abbrev pub image_of : (code : List ℕ) → (others : Contents) → Opening
image_of code others = diskless ((0, big_bytes 4 0x10000 ++ big_bytes 4 0x400) ∷ (0x400, words code) ∷ others)

-- ---- an image that translates nothing

-- It sends an A and switches off: MOVEQ #$41,D0, MOVE.B D0,$FFF00000.L and MOVE.L #$1,$FFF00020.L.
abbrev pub sending_image : Opening
sending_image =
    image_of (0x7041 ∷ 0x13C0 ∷ 0xFFF0 ∷ 0x0000 ∷ 0x23FC ∷ 0x0000 ∷ 0x0001 ∷ 0xFFF0 ∷ 0x0020 ∷ []) []

abbrev pub SendingIsTidy : Type 0
SendingIsTidy = Tidy sending_image [] 65536 10

-- ---- images that translate

-- the descriptors of so many pages from one on, each of the frame of the same number
abbrev pub pages_from : (page n : ℕ) → List ℕ
pages_from page zero = []
pages_from page (suc n) = big_bytes 4 (0x1000 * page + 1) ++ pages_from (page + 1) n

-- Tables of sixteen pages: the root table at 2000, the pointer table at 2200, and the page table at 2400. The word at
-- 3000 is 1111, and that at 4000 is 2222.
abbrev pub tables : Contents
tables =
    (0x2000, big_bytes 4 0x2202) ∷ (0x2200, big_bytes 4 0x2402) ∷ (0x2400, pages_from 0 16)
    ∷ (0x3000, words (0x1111 ∷ [])) ∷ (0x4000, words (0x2222 ∷ [])) ∷ []

-- LEA $2000.W,A0, MOVEC A0,SRP, MOVE.L #$8000,D1 and MOVEC D1,TC
abbrev pub turning_on : List ℕ
turning_on = 0x41F8 ∷ 0x2000 ∷ 0x4E7B ∷ 0x8807 ∷ 0x223C ∷ 0x0000 ∷ 0x8000 ∷ 0x4E7B ∷ 0x1003 ∷ []

-- MOVE.W $3000.W,D2, and MOVE.L #$4001,$240C.W, which leads that page to the frame at 4000
abbrev pub changing : List ℕ
changing = 0x3438 ∷ 0x3000 ∷ 0x21FC ∷ 0x0000 ∷ 0x4001 ∷ 0x240C ∷ []

-- MOVE.W $3000.W,D3
abbrev pub reading_again : List ℕ
reading_again = 0x3638 ∷ 0x3000 ∷ []

-- It turns translation on, reads a word, and changes its page. Then comes something else, and it reads the word again.
abbrev pub changing_image : (between : List ℕ) → Opening
changing_image between = image_of (turning_on ++ changing ++ between ++ reading_again) tables

-- MOVEC A0,SRP: what was searched out is not flushed
abbrev pub stale_image : Opening
stale_image = changing_image (0x4E7B ∷ 0x8807 ∷ [])

-- PFLUSHA
abbrev pub flushing_image : Opening
flushing_image = changing_image (0xF518 ∷ [])

abbrev pub FlushingIsTidy : Type 0
FlushingIsTidy = Tidy flushing_image [] 65536 8

abbrev pub StaleIsUntidy : Type 0
StaleIsUntidy = Tidy stale_image [] 65536 8 → ⊥

-- D3 of an image's outcome by a rule, after 8 steps
abbrev pub word_read : Rule → Opening → ℕ
word_read rule image = slice_index_or (outcome_by rule image [] 65536 8).seen.cpu.regs.d 3 0

-- It reads the old word by the board's rule and the new one by the guests'; so the outcomes differ.
pub record StaleDiffers : Type 0 where
  pub board : word_read rule_a stale_image ≡ 0x1111
  pub guest : word_read rule_k stale_image ≡ 0x2222
  pub differ : outcome_by rule_a stale_image [] 65536 8 ≡ outcome_by rule_k stale_image [] 65536 8 → ⊥
