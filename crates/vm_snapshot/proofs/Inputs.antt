-- Lines of input spell.
use Rattle.std.proofs.Common.{◌≡◌, ℕ, zero, suc, ◌+◌, ◌-◌, ◌/◌, ◌%◌, ◌^◌, ◌≤◌, ◌<◌, max, eqb, Bool, true, false, List, [], ◌∷◌, length, refl, sym, ap, subst, arith, inl, inr}
use Rattle.std.specs.Prelude.{codes}
use Rattle.std.proofs.lemmas.Bool.{cases_lt, and_from, and_parts, leb-true, le-leb, lt-ltb, le-ltb, ne_eqb}
use Rattle.mb_spelling.specs.Spelling.{Spelling, Either, First, Second, both, either, behind, said, more}
use Rattle.mb_spelling.specs.Laws.{Spells}
use Rattle.mb_spelling.specs.Presents.{Heads}
use Rattle.mb_spelling.specs.Hex.{hex_digit, any_number, hex_of}
use Rattle.mb_spelling.specs.Decimals.{is_in, ranged}
use Rattle.mb_spelling.specs.Lists.{LawfulUntil, until}
use Rattle.mb_spelling.proofs.Combined.{over_spells, both_spells, either_spells, behind_spells, said_spells, more_spells, behind_heads, said_heads}
use Rattle.mb_spelling.proofs.Hex.{number_spells, any_is_may}
use Rattle.mb_spelling.proofs.Ranges.{ranged_spells}
use Rattle.mb_spelling.proofs.Lists.{GoesWell, until_spells, listed_times}
use Rattle.vm_snapshot.specs.Inputs.{MOST, Due, Bytes, Abort, InputLine, entries_in, SoFar, at_first, behind_line, byte, is_line_end, pairs, some_pairs, is_abort}
use Rattle.vm_snapshot.specs.Inputs.{LawfulDue, write_due, due_said, any_due, due_of, steps_from, only_abort, LawfulLine, write_line, line_said, input_line, room_of, counts_32, inputs}

-- ---- bytes

pub byte_spells : Spells byte
byte_spells = number_spells any_number any_is_may 2 0 refl

-- a digit is none of the characters that are no digits
pub digit_apart : (d c : ℕ) → d < 16 → c < 48 → eqb (hex_digit d) c ≡ false
digit_apart d c small low =
    elim (cases_lt d 10) [
      | inl few ↦ rw (lt-ltb d 10 few) (ne_eqb (48 + d) c (λ e. omega arith))
      | inr more ↦ rw (le-ltb d 10 more) (ne_eqb (65 + (d - 10)) c (λ e. omega arith))
    ]

pub digit_below : (d c : ℕ) → d < 16 → 70 < c → eqb (hex_digit d) c ≡ false
digit_below d c small high =
    elim (cases_lt d 10) [
      | inl few ↦ rw (lt-ltb d 10 few) (ne_eqb (48 + d) c (λ e. omega arith))
      | inr more ↦ rw (le-ltb d 10 more) (ne_eqb (65 + (d - 10)) c (λ e. omega arith))
    ]

byte_heads : Heads is_line_end false byte
byte_heads = record {
  head = λ n l. hex_digit (n / 16 ^ 1 % 16);
  tail = λ n l. hex_of 1 n;
  written = λ n l. refl;
  tested = λ n l. digit_apart (n / 16 ^ 1 % 16) 10 (omega arith) (omega arith);
}

pairs_well : GoesWell pairs
pairs_well = record {
  first = 10;
  others = [];
  mark = refl;
  tested = refl;
  Good = λ s. Unit {0};
  spells = λ s good more_come. byte_spells;
  heads = λ s good more_come. byte_heads;
  stays = λ s a good more_come l. tt;
}

some_pairs_spells : (room : ℕ) → Spells (some_pairs room)
unfolding pairs_well
some_pairs_spells room = more_spells byte (λ b. until pairs (room - 1) tt) byte_spells (λ b l. until_spells pairs pairs_well (room - 1) tt tt)

until_length : (most : ℕ) (b : List ℕ) → LawfulUntil pairs most tt b → length b ≤ most
until_length most [] l = omega arith
until_length zero (a ∷ later) l = absurd l
until_length (suc most) (a ∷ later) l = let h = until_length most later l.2 in omega arith

some_length : (room : ℕ) (bytes : List ℕ) → 1 ≤ room → (some_pairs room).IsLawful bytes → length bytes ≤ room
some_length room [] some l = absurd l
some_length room (b ∷ later) some l = let h = until_length (room - 1) later l.1 in omega arith

-- ---- what is due

abbrev Choice : (room : ℕ) → Spelling (Either Due (List ℕ))
Choice room = either is_abort (said (codes "abort\n") Abort) (behind (codes "hex ") (some_pairs room))

due_to : (room : ℕ) (v : Either Due (List ℕ)) → (Choice room).IsLawful v → LawfulDue room (due_said v)
due_to room (First due) l = subst (LawfulDue room) l tt
due_to room (Second bytes) l = l

due_same : (room : ℕ) (v : Either Due (List ℕ)) → (Choice room).IsLawful v → write_due room (due_said v) ≡ (Choice room).write v
due_same room (First due) l = ap (write_due room) (sym l)
due_same room (Second bytes) l = refl

due_from : Due → Either Due (List ℕ)
due_from Abort = First Abort
due_from (Bytes bytes) = Second bytes

due_lawful : (room : ℕ) (due : Due) → LawfulDue room due → (Choice room).IsLawful (due_from due)
unfolding due_from
due_lawful room Abort l = refl
due_lawful room (Bytes bytes) l = l

due_back : (due : Due) → due_said (due_from due) ≡ due
unfolding due_from
due_back Abort = refl
due_back (Bytes bytes) = refl

any_due_spells : (room : ℕ) → Spells (any_due room)
any_due_spells room =
    over_spells (Choice room) due_said (LawfulDue room) (write_due room)
    (either_spells is_abort (said (codes "abort\n") Abort) (behind (codes "hex ") (some_pairs room)) (said_spells (codes "abort\n") Abort)
    (behind_spells (codes "hex ") (some_pairs room) (some_pairs_spells room))
    (said_heads is_abort true 97 (codes "bort\n") Abort refl) (behind_heads is_abort false 104 (codes "ex ") (some_pairs room) refl)) (record {
      to = due_to room;
      same = due_same room;
      from = λ due l. due_from due;
      lawful = due_lawful room;
      back = λ due l. due_back due;
    })

due_spells : (room : ℕ) (alone : Bool) → Spells (due_of room alone)
due_spells room true = said_spells (codes "abort\n") Abort
due_spells room false = any_due_spells room

due_entries : (room : ℕ) (due : Due) → 1 ≤ room → LawfulDue room due → entries_in due ≤ room
due_entries room (Bytes bytes) some l = some_length room bytes some l
due_entries room Abort some l = some

of_entries : (room : ℕ) (alone : Bool) (due : Due) → 1 ≤ room → (due_of room alone).IsLawful due → entries_in due ≤ room
of_entries room true due some l = subst (λ (d : Due). entries_in d ≤ room) l some
of_entries room false due some l = due_entries room due some l

-- ---- lines

last_step : (s : SoFar) → s.last ≤ MOST → is_in (steps_from s) MOST ≡ true
last_step s h = and_from _ _ (and_from _ _ (le-leb (max 1 s.last) MOST (omega arith)) refl) refl

line_spells : (room : ℕ) (s : SoFar) → s.last ≤ MOST → Spells (input_line room s)
line_spells room s h =
    over_spells (behind (codes "at ") (both (ranged (steps_from s) 32) (λ step. due_of room (only_abort s step)))) line_said (LawfulLine room s)
    (write_line room s)
    (behind_spells (codes "at ") (both (ranged (steps_from s) 32) (λ step. due_of room (only_abort s step)))
    (both_spells (ranged (steps_from s) 32) (λ step. due_of room (only_abort s step))
    (ranged_spells (steps_from s) 32 MOST (omega arith) (omega arith) refl (last_step s h))
    (λ step l. due_spells room (only_abort s step)))) (record {
      to = λ v l. l;
      same = λ v l. refl;
      from = λ line l. (line.step, line.due);
      lawful = λ line l. l;
      back = λ line l. refl;
    })

-- There is room for the lines that are to come, and the last step was one.
pub record Good (n : ℕ) (s : SoFar) : Type 0 where
  pub room : s.total + n ≤ MOST
  pub last : s.last ≤ MOST

pub good_next : (n : ℕ) (s : SoFar) (line : InputLine) → Good (suc n) s → LawfulLine (room_of n s) s line → Good n (behind_line s line)
good_next n s line good l =
    let some : 1 ≤ room_of n s = omega (arith, good.room) in
    let few : entries_in line.due ≤ room_of n s = of_entries (room_of n s) (only_abort s line.step) line.due some l.1 in
    let step : line.step ≤ MOST = leb-true line.step MOST (and_parts _ _ (and_parts _ _ l.0).0).1 in
    record { room = omega (arith, good.room); last = step }

counts_spell : Spells (ranged counts_32 10)
counts_spell = ranged_spells counts_32 10 0 (omega arith) (omega arith) refl refl

pub inputs_spell : Spells inputs
inputs_spell =
    behind_spells (codes "input ") _
    (listed_times (λ left s. input_line (room_of left s) s) behind_line Good at_first counts_32 10
    (λ n s good. line_spells (room_of n s) s good.last) good_next counts_spell
    (λ n l. record { room = (let h : n ≤ MOST = leb-true n MOST (and_parts _ _ (and_parts _ _ l).0).1 in omega arith); last = omega arith }))
