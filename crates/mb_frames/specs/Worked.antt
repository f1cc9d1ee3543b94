-- Frames of access errors that were worked out by hand, each by its fields that are not 0. Pages have 4 KiB where
-- nothing else is said.
use Rattle.std.specs.Prelude.{◌≡◌, ℕ, Bool, true, false, [], ◌∷◌, length, map, replicate}
use Rattle.mb_port.specs.declared.types.Space.{Space}
use Rattle.mb_port.specs.declared.types.Space.TheVariants.{Super, User}
use Rattle.mb_port.specs.declared.types.Fault.{Fault}
use Rattle.mb_frames.specs.declared.pend.Pend.{Pend}
use Rattle.mb_frames.specs.AccessFields.{Check, Line, Movem, Read, Write, access_fields, no_fields}
use Rattle.mb_frames.specs.Layout.{access_table, fields_of_access}

-- an access of data at a place: whether it writes, and whether the translation refused it
abbrev pub refused : Space → (at len : ℕ) → (write atc : Bool) → Fault
refused space at len write atc =
    record { at = at; len = len; space = space; code = false; write = write; atc = atc }

-- the fetch of a word that the translation refused
abbrev pub refused_fetch : Space → (at : ℕ) → Fault
refused_fetch space at = record { at = at; len = 2; space = space; code = true; write = false; atc = true }

abbrev pub pend : (at len value : ℕ) → Pend
pend at len value = record { at = at; len = len; value = value }

-- the fields that a worked frame does not name are 0
abbrev pub OtherFieldsAreZero : Type 0
OtherFieldsAreZero = map (λ field. field.value) (fields_of_access no_fields) ≡ replicate (length access_table) 0

-- MOVE.L #$11223344,$1FFF, where the page at $2000 is invalid: the byte at $1FFF is written, the word and the
-- byte after it are not
abbrev pub WriteIntoInvalidPage : Type 0
WriteIntoInvalidPage =
    access_fields
    (Write (refused Super 0x2000 2 true true) 0x1FFF (pend 0x2000 2 0x2233 ∷ pend 0x2002 1 0x44 ∷ []))
    4096
    ≡ record no_fields {
      ea = 0x1FFF;
      ssw = 0x0C45;
      wb2s = 0x00A5;
      wb1s = 0x00C5;
      fa = 0x2000;
      wb2a = 0x2002;
      wb2d = 0x44;
      wb1a = 0x2000;
      wb1d = 0x22330000;
    }

-- MOVE.L #$11223344,$FFFF, where memory ends before $10000
abbrev pub WritePastMemory : Type 0
WritePastMemory =
    access_fields
    (Write (refused Super 0x10000 2 true false) 0xFFFF (pend 0x10000 2 0x2233 ∷ pend 0x10002 1 0x44 ∷ []))
    4096
    ≡ record no_fields {
      ea = 0xFFFF;
      ssw = 0x0045;
      wb2s = 0x00A5;
      wb1s = 0x00C5;
      fa = 0x10000;
      wb2a = 0x10002;
      wb2d = 0x44;
      wb1a = 0x10000;
      wb1d = 0x22330000;
    }

-- a user's MOVE.L #$11223344,$1FFF, where the page at $1000 is invalid: all three pieces are still to be written
abbrev pub UserWriteOnInvalidPage : Type 0
UserWriteOnInvalidPage =
    let pieces = pend 0x1FFF 1 0x11 ∷ pend 0x2000 2 0x2233 ∷ pend 0x2002 1 0x44 ∷ [] in
    access_fields (Write (refused User 0x1FFF 1 true true) 0x1FFF pieces) 4096
    ≡ record no_fields {
      ea = 0x1FFF;
      ssw = 0x0421;
      wb3s = 0x00A1;
      wb2s = 0x00C1;
      wb1s = 0x00A1;
      fa = 0x1FFF;
      wb3a = 0x2002;
      wb3d = 0x44;
      wb2a = 0x2000;
      wb2d = 0x2233;
      wb1a = 0x1FFF;
      wb1d = 0x00000011;
    }

-- MOVE.L #$44,$2FFE with pages of 8 KiB, where no translation is kept and the word at $2FFE is the low half of the
-- page's own descriptor: the zeros that are written there make the page invalid, so the word at $3000, on the same
-- page, is refused
abbrev pub WriteWithinLargePage : Type 0
WriteWithinLargePage =
    access_fields (Write (refused Super 0x3000 2 true true) 0x2FFE (pend 0x3000 2 0x44 ∷ [])) 8192
    ≡ record no_fields {
      ea = 0x2FFE;
      ssw = 0x0445;
      wb1s = 0x00C5;
      fa = 0x3000;
      wb1a = 0x3000;
      wb1d = 0x00440000;
    }

-- MOVEP.L D0,0(A0) with A0 $2001, where the page at $2000 is invalid: its first byte is refused, and nothing is to be
-- written
abbrev pub WriteOfNothing : Type 0
WriteOfNothing =
    access_fields (Write (refused Super 0x2001 1 true true) 0x2001 []) 4096
    ≡ record no_fields { ea = 0x2001; ssw = 0x0425; fa = 0x2001 }

-- MOVEM.L D0-D3,(A0) with A0 $1FF8, where the page at $2000 is invalid: the third transfer is refused
abbrev pub MovemIntoInvalidPage : Type 0
MovemIntoInvalidPage =
    access_fields (Movem (refused Super 0x2000 4 true true) 0x1FF8 0x2000 2 0x48D0000F 0x404 false) 4096
    ≡ record no_fields {
      ea = 0x1FF8;
      ssw = 0x1405;
      fa = 0x2000;
      pd1 = 0x404;
      pd2 = 0x48D0000F;
      pd3 = 2;
    }

-- the same with A0 $5FF8, where the page at $6000 leads to a device that has no long there
abbrev pub MovemIntoDevice : Type 0
MovemIntoDevice =
    access_fields (Movem (refused Super 0x6000 4 true false) 0x5FF8 0x6000 2 0x48D0000F 0x404 false) 4096
    ≡ record no_fields {
      ea = 0x5FF8;
      ssw = 0x1005;
      fa = 0x6000;
      pd1 = 0x404;
      pd2 = 0x48D0000F;
      pd3 = 2;
    }

-- MOVE16 (A0)+,(A1)+ with A1 $2000, where the page at $2000 is invalid
abbrev pub LineIntoInvalidPage : Type 0
LineIntoInvalidPage =
    access_fields
    (Line (refused Super 0x2000 16 true true) (0x00112233 ∷ 0x44556677 ∷ 0x8899AABB ∷ 0xCCDDEEFF ∷ []))
    4096
    ≡ record no_fields {
      ea = 0x2000;
      ssw = 0x046D;
      wb1s = 0x00ED;
      fa = 0x2000;
      wb1a = 0x2000;
      wb1d = 0x00112233;
      pd1 = 0x44556677;
      pd2 = 0x8899AABB;
      pd3 = 0xCCDDEEFF;
    }

-- a user's MOVE16 (A0)+,(A1)+ with A1 $10000, where memory ends before it
abbrev pub UserLinePastMemory : Type 0
UserLinePastMemory =
    access_fields
    (Line (refused User 0x10000 16 true false) (0x00112233 ∷ 0x44556677 ∷ 0x8899AABB ∷ 0xCCDDEEFF ∷ []))
    4096
    ≡ record no_fields {
      ea = 0x10000;
      ssw = 0x0069;
      wb1s = 0x00E9;
      fa = 0x10000;
      wb1a = 0x10000;
      wb1d = 0x00112233;
      pd1 = 0x44556677;
      pd2 = 0x8899AABB;
      pd3 = 0xCCDDEEFF;
    }

-- TAS $10000, where memory ends before it: the locked check is refused
abbrev pub LockedPastMemory : Type 0
LockedPastMemory =
    access_fields (Read (refused Super 0x10000 1 true false) 0x10000) 4096
    ≡ record no_fields {
      ea = 0x10000;
      ssw = 0x0325;
      fa = 0x10000;
    }

-- a user's instruction at $3000, whose page is invalid
abbrev pub FetchFromInvalidPage : Type 0
FetchFromInvalidPage =
    access_fields (Read (refused_fetch User 0x3000) 0x3000) 4096
    ≡ record no_fields {
      ea = 0x3000;
      ssw = 0x0542;
      fa = 0x3000;
    }

-- a user's MOVE.L $2FFE,D0, where the page at $3000 is invalid: the second word is refused
abbrev pub ReadIntoInvalidPage : Type 0
ReadIntoInvalidPage =
    access_fields (Read (refused User 0x3000 2 false true) 0x2FFE) 4096
    ≡ record no_fields {
      ea = 0x2FFE;
      ssw = 0x0D41;
      fa = 0x3000;
    }

-- MOVEM.L D0-D3,-(A0) with A0 $2008, where the page at $1000 is invalid: the third transfer is refused, at $1FFC
abbrev pub MovemDownIntoInvalidPage : Type 0
MovemDownIntoInvalidPage =
    access_fields (Movem (refused Super 0x1FFC 4 true true) 0x2004 0x1FFC 2 0x48E0F000 0x404 false) 4096
    ≡ record no_fields {
      ea = 0x2004;
      ssw = 0x1405;
      fa = 0x1FFC;
      pd1 = 0x404;
      pd2 = 0x48E0F000;
      pd3 = 2;
    }

-- MOVEM.W (A0)+,D0-D3 with A0 $1FFD, where the page at $2000 is invalid: the second transfer is refused at its
-- second byte
abbrev pub MovemFromInvalidPage : Type 0
MovemFromInvalidPage =
    access_fields (Movem (refused Super 0x2000 1 false true) 0x1FFD 0x1FFF 1 0x4C98000F 0x404 true) 4096
    ≡ record no_fields {
      ea = 0x1FFD;
      ssw = 0x1D25;
      fa = 0x2000;
      pd1 = 0x404;
      pd2 = 0x4C98000F;
      pd3 = 1;
    }

-- the check of a frame whose last long stands on an invalid page
abbrev pub StackOnInvalidPage : Type 0
StackOnInvalidPage =
    access_fields (Check (refused Super 0x3000 4 true true)) 4096
    ≡ record no_fields {
      ea = 0x3000;
      ssw = 0x0405;
      fa = 0x3000;
    }

-- the same where memory ends before it
abbrev pub StackPastMemory : Type 0
StackPastMemory =
    access_fields (Check (refused Super 0x10000 2 true false)) 4096
    ≡ record no_fields { ea = 0x10000; ssw = 0x0045; fa = 0x10000 }
