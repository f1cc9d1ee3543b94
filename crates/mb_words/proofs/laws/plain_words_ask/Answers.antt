use Rattle.std.proofs.Common.{◌≡◌, ◌==◌, ℕ, [], ◌∷◌, length, Some, refl, false, arith}
use Rattle.std.proofs.lemmas.Bool.{ne_eqb}
use Rattle.mb_forms.specs.Forms.{Text, ends_options}
use Rattle.mb_words.specs.Values.{name_of}
use Rattle.mb_words.specs.Words.{asked_by, compare_asked, host_asked}
use Rattle.mb_words.specs.Plain.{CompareAsks, HostAsks}
use Rattle.mb_words.proofs.laws.plain_words_ask.Goals as goal

-- a word that begins with no hyphen ends no options
goes_on : (c : ℕ) (cs : Text) → c == 45 ≡ false → ends_options (c ∷ cs) ≡ false
goes_on c cs is = rw is refl

-- and is a name
named : (c : ℕ) (cs : Text) → name_of (c ∷ cs) ≡ Some (c ∷ cs)
named c cs = rw (ne_eqb (length (c ∷ cs)) 0 (λ e. absurd cc)) refl

host_asks : HostAsks
unfolding asked_by host_asked
host_asks program [] some plain = absurd (omega (arith, some))
host_asks program (c ∷ cs) some plain = rw (goes_on c cs plain, plain, named c cs) refl

compare_asks : CompareAsks
unfolding asked_by compare_asked
compare_asks program [] some plain = absurd (omega (arith, some))
compare_asks program (c ∷ cs) some plain = rw (goes_on c cs plain, plain, named c cs) refl

pub returns-clause-host : goal.returns-clause-host
returns-clause-host c = host_asks

pub returns-clause-compare : goal.returns-clause-compare
returns-clause-compare c = compare_asks
