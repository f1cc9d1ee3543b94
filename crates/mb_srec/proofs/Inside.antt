-- The data of an image lie in RAM.
use Rattle.std.proofs.Common.{◌≡◌, ℕ, ◌+◌, Bool, true, false, cond, not, List, [], ◌∷◌, length, Option, Some, None, Result, Ok, Err, refl, subst, inl, inr}
use Rattle.std.specs.Prelude.{IfOk, All}
use Rattle.std.proofs.lemmas.Bool.{cases_lt}
use Rattle.std.proofs.lemmas.List.Elements.{All-nil, All-push}
use Rattle.mb_lines.specs.Lines.{Line, numbered}
use Rattle.mb_srec.specs.declared.fault.ImageFault.{ImageFault}
use Rattle.mb_srec.specs.Faults.{Fault}
use Rattle.mb_srec.specs.declared.image.Image.{Image}
use Rattle.mb_srec.specs.Image.{LiesBelow, contents_of}
use Rattle.mb_srec.specs.Answers.{Gives}
use Rattle.mb_lines.specs.Results.{◌>>=◌}
use Rattle.mb_srec.specs.Records.{Record, Header, Data, Count, End, Reading, beginning, first_outside, counts_right, unless_outside}
use Rattle.mb_srec.specs.Records.{with_record, at_line, record_of, after_record, after_line, after_lines, at_end, records_of}
use Rattle.mb_srec.proofs.Outside.{some_outside}

abbrev Within : ℕ → List (ℕ × List ℕ) → Type 0
Within ram contents = All (LiesBelow ram) contents

lies_below : (ram at : ℕ) (bytes : List ℕ) → first_outside ram at bytes ≡ None → LiesBelow ram (at, bytes)
lies_below ram at bytes none some =
    elim (cases_lt ram (at + length bytes)) [
      | inl past ↦ absurd (let found = some_outside ram at bytes some past in cc)
      | inr inside ↦ inside
    ]

chosen : {A : Type 0} (b : Bool) (fault : Fault) (x : Result A Fault) (y : A) → cond b (Err fault) x ≡ Ok y → x ≡ Ok y
chosen true fault x y e = absurd cc
chosen false fault x y e = e

bound : {A B : Type 0} (x : Result A Fault) (f : A → Result B Fault) (y : B) → (x >>= f) ≡ Ok y → (a : A) × (x ≡ Ok a) × (f a ≡ Ok y)
bound (Err fault) f y e = absurd cc
bound (Ok a) f y e = (a, refl, e)

abbrev is : {A : Type 0} → A → Result A Fault
is x = Ok x

same : {A : Type 0} (x y : A) → is x ≡ is y → x ≡ y
same x y e = cc

placed : {A : Type 0} (o : Option ℕ) (x y : A) → unless_outside o x ≡ Ok y → (o ≡ None) × (x ≡ y)
placed None x y e = (refl, same x y e)
placed (Some at) x y e = absurd cc

taken_inside : (ram : ℕ) (so_far next : Reading) (said : Record) → with_record ram so_far said ≡ Ok next → Within ram so_far.contents → Within ram next.contents
taken_inside ram so_far next Header e inside = subst (λ (r : Reading). Within ram r.contents) (same so_far next e) inside
taken_inside ram so_far next (Data at bytes) e inside =
    let there = placed (first_outside ram at bytes) _ next e in
    subst (λ (r : Reading). Within ram r.contents) there.1 (All-push (LiesBelow ram) so_far.contents (at, bytes) inside (lies_below ram at bytes there.0))
taken_inside ram so_far next (Count number) e inside = subst (λ (r : Reading). Within ram r.contents) (same so_far next e) inside
taken_inside ram so_far next End e inside = subst (λ (r : Reading). Within ram r.contents) (same _ next e) inside

record_inside : (ram number : ℕ) (so_far next : Reading) (said : Record) → after_record ram number so_far said ≡ Ok next → Within ram so_far.contents
    → Within ram next.contents
record_inside ram number so_far next said e inside =
    taken_inside ram so_far next said (chosen so_far.ended _ _ next (chosen (not (counts_right so_far said)) _ _ next e)) inside

line_inside : (ram : ℕ) (so_far next : Reading) (line : Line) → after_line ram so_far line ≡ Ok next → Within ram so_far.contents → Within ram next.contents
line_inside ram so_far next line e inside =
    let said = bound (at_line line.number (record_of line.characters)) (λ r. after_record ram line.number so_far r) next e in
    record_inside ram line.number so_far next said.0 said.2 inside

lines_inside : (ram : ℕ) (so_far last : Reading) (all : List Line) → after_lines ram so_far all ≡ Ok last → Within ram so_far.contents
    → Within ram last.contents
lines_inside ram so_far last [] e inside = subst (λ (r : Reading). Within ram r.contents) (same so_far last e) inside
lines_inside ram so_far last (line ∷ others) e inside =
    let next = bound (after_line ram so_far line) (λ r. after_lines ram r others) last e in
    lines_inside ram next.0 last others next.2 (line_inside ram so_far next.0 line next.1 inside)

ended : (b : Bool) (x y : List (ℕ × List ℕ)) (fault : Fault) → cond b (Ok x) (Err fault) ≡ Ok y → x ≡ y
ended true x y fault e = same x y e
ended false x y fault e = absurd cc

pub records_inside : (text : List ℕ) (ram : ℕ) (contents : List (ℕ × List ℕ)) → records_of text ram ≡ Ok contents → All (LiesBelow ram) contents
records_inside text ram contents e =
    let last = bound (after_lines ram beginning (numbered text)) at_end contents e in
    subst (Within ram) (ended last.0.ended last.0.contents contents _ last.2)
    (lines_inside ram beginning last.0 (numbered text) last.1 (All-nil (LiesBelow ram)))

pub image_inside : (text : List ℕ) (ram : ℕ) (r : Result Image ImageFault) → Gives contents_of r (records_of text ram)
    → IfOk r (λ image. All (LiesBelow ram) (contents_of image))
image_inside text ram (Ok image) given = records_inside text ram (contents_of image) given
image_inside text ram (Err fault) given = tt
