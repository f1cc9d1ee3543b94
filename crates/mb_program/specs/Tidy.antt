-- What is promised of tidy guests: those that flush what they change.
use Rattle.std.specs.Prelude.{◌≡◌, ◌⊎◌, ℕ, ◌+◌, true, List, ◌∷◌, ◌++◌, All, length, map}
use Rattle.mb_outside.specs.Sink.{Grows}
use Rattle.mb_words.specs.Words.{Text}
use Rattle.def_runs.specs.Tidy.{Tidy}
use Rattle.vm_guest.specs.Session.{GuestAtStart}
use Rattle.mb_ends.specs.Texts.{texts_from}
use Rattle.mb_program.specs.Answers.{compared_text, is_same}
use Rattle.mb_program.specs.Around.{Around}

-- A guest is tidy where, from its start and over all its steps, no translation that it kept is ever used stale.
abbrev pub IsTidyGuest : GuestAtStart → Type 0
IsTidyGuest guest = Tidy guest.opening guest.script guest.ram guest.steps

-- the lines of guests beside each other, numbered from i
abbrev pub lines_from : ℕ → List GuestAtStart → Text
lines_from i guests = texts_from compared_text i (map is_same guests)

-- Of a tidy guest it is said that it shows the same: with its number, between the lines of those before it and those
-- behind it, whoever they are. Where all are tidy, none differs.
pub record TidyAreSame (a : Around) (guests : List GuestAtStart) (status : ℕ) : Type 0 where
  pub line : (before behind : List GuestAtStart) (guest : GuestAtStart) → guests ≡ before ++ guest ∷ behind
      → IsTidyGuest guest → (status ≡ 0) ⊎ (status ≡ 1)
      → Grows a.out.taken a.out_after.taken
      (lines_from 1 before ++ compared_text (length before + 1) true ++ lines_from (length before + 2) behind)
  pub none_differs : All IsTidyGuest guests → status ≡ 1 → ⊥
