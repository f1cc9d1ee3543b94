-- What is said of tidy guests: rules of keeping show the same of them.
use Rattle.std.proofs.Common.{◌≡◌, ◌∙◌, ◌⊎◌, ℕ, ◌+◌, ◌++◌, List, [], ◌∷◌, length, sym, ap, subst, arith, append_assoc, cond, inl, inr, Bool, true}
use Rattle.std.specs.Prelude.{All, slice_index_or}
use Rattle.std.specs.List.{list_all}
use Rattle.std.proofs.lemmas.List.Sums.{list_all-from_AllPass}
use Rattle.mb_outside.specs.Sink.{Grows}
use Rattle.mb_model.specs.Keeping.{rule_a, rule_k}
use Rattle.mb_words.specs.Words.{Text}
use Rattle.law_tidy.proofs.TidyRuns.{rules-show_the_same}
use Rattle.vm_guest.specs.Session.{GuestAtStart}
use Rattle.mb_program.specs.Files.{Ordered}
use Rattle.mb_program.specs.Headline.{alone}
use Rattle.mb_program.specs.Answers.{compare_shown, compared_text, is_same}
use Rattle.mb_program.specs.Around.{Around, Diag}
use Rattle.mb_program.specs.Causes.{Gives}
use Rattle.mb_program.specs.Tidy.{IsTidyGuest, TidyAreSame, lines_from}
use Rattle.mb_program.proofs.MachineLemmas.{same_decides_outcomes}

-- ---- a guest

-- a tidy guest shows the same on the board and under the monitor
tidy_is_same : (guest : GuestAtStart) → IsTidyGuest guest → is_same guest ≡ true
tidy_is_same guest tidy =
    (same_decides_outcomes (alone rule_a guest) (alone rule_k guest)).1
    (rules-show_the_same rule_a rule_k guest.opening guest.script guest.ram guest.steps tidy)

tidy_are_same : (guests : List GuestAtStart) → All IsTidyGuest guests → list_all is_same guests ≡ true
tidy_are_same guests tidy =
    list_all-from_AllPass is_same guests (λ k d there. tidy_is_same (slice_index_or guests k d) (tidy k d there))

-- ---- its line

-- the lines of guests are those of some of them, and then those of the others
lines_behind : (i : ℕ) (before behind : List GuestAtStart)
    → lines_from i (before ++ behind) ≡ lines_from i before ++ lines_from (i + length before) behind
lines_behind i [] behind = let same : i ≡ i + 0 = omega arith in ap (λ (n : ℕ). lines_from n behind) same
lines_behind i (g ∷ before) behind =
    let same : i + 1 + length before ≡ i + length (g ∷ before) = omega arith in
    ap (λ (rest : Text). compared_text i (is_same g) ++ rest)
    (lines_behind (i + 1) before behind ∙ ap (λ (n : ℕ). lines_from (i + 1) before ++ lines_from n behind) same)
    ∙ sym (append_assoc (compared_text i (is_same g)) (lines_from (i + 1) before) (lines_from (i + length (g ∷ before)) behind))

-- the line of one that is the same
line_at : (before behind : List GuestAtStart) (guest : GuestAtStart) → is_same guest ≡ true
    → lines_from 1 (before ++ guest ∷ behind)
    ≡ lines_from 1 before ++ compared_text (length before + 1) true ++ lines_from (length before + 2) behind
line_at before behind guest same =
    let n = length before in
    let first = lines_from 1 before in
    let its : 1 + n ≡ n + 1 = omega arith in
    let next : 1 + n + 1 ≡ n + 2 = omega arith in
    lines_behind 1 before (guest ∷ behind)
    ∙ sym (append_assoc first (compared_text (1 + n) (is_same guest)) (lines_from (1 + n + 1) behind))
    ∙ ap (λ (b : Bool). first ++ compared_text (1 + n) b ++ lines_from (1 + n + 1) behind) same
    ∙ ap (λ (k : ℕ). first ++ compared_text k true ++ lines_from (1 + n + 1) behind) its
    ∙ ap (λ (k : ℕ). first ++ compared_text (n + 1) true ++ lines_from k behind) next

-- ---- what is said

-- where all are the same, the status is not 1
not_one : (b : Bool) (status : ℕ) → b ≡ true → status ≡ 1 → (status ≡ cond b 0 1) ⊎ (status ≡ 5) ⊎ (status ≡ 6) ⊎ (status ≡ 7) → ⊥
not_one b status all one (inl is) =
    let zero : status ≡ 0 = is ∙ ap (λ (c : Bool). let n : ℕ = cond c 0 1 in n) all in absurd (omega (arith, one, zero))
not_one b status all one (inr (inl five)) = absurd (omega (arith, one, five))
not_one b status all one (inr (inr (inl six))) = absurd (omega (arith, one, six))
not_one b status all one (inr (inr (inr seven))) = absurd (omega (arith, one, seven))

-- what is promised of a comparison is promised of its tidy guests
pub tidy_so : (a : Around) (diag : Diag) (s : Ordered) (status : ℕ) → Gives a diag (compare_shown s) status → TidyAreSame a s.session.guests status
tidy_so a diag s status gives = record {
  line = λ before behind guest here tidy done.
      subst (λ (text : Text). Grows a.out.taken a.out_after.taken text)
      (ap (λ (gs : List GuestAtStart). lines_from 1 gs) here ∙ line_at before behind guest (tidy_is_same guest tidy)) (gives.printed done);
  none_differs = λ tidy one. not_one (list_all is_same s.session.guests) status (tidy_are_same s.session.guests tidy) one gives.ended;
}
