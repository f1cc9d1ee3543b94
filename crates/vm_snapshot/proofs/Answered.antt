-- What is answered of a whole text.
use Rattle.std.proofs.Common.{◌≡◌, ℕ, suc, ◌+◌, ◌≤◌, eqb, List, [], ◌∷◌, ◌++◌, sym, ap, subst, ◌∙◌, arith, inl, inr}
use Rattle.std.proofs.lemmas.Bool.{cases_Bool}
use Rattle.std.proofs.lemmas.List.{append-nil}
use Rattle.mb_spelling.specs.Laws.{Says, Stops}
use Rattle.mb_spelling.specs.Places.{IsFirstFault, Tells, ended, line_count, line_ends, line_of}
use Rattle.mb_spelling.specs.Reads.{Place, lines_to}
use Rattle.mb_spelling.specs.Spelling.{Reading, Read, Short, Wrong, mapped}
use Rattle.mb_spelling.proofs.Places.{reads_to_the_end}
use Rattle.vm_snapshot.specs.Guests.{Snapshot, snapshot}
use Rattle.vm_snapshot.specs.Plans.{IsRead, Plan, plan_of}
use Rattle.vm_snapshot.proofs.Readings.{unmapped, was_read}
use Rattle.vm_snapshot.proofs.Guests.{snapshot_spells}

-- what was read
pub was_whole : (text left : List ℕ) (plan : Plan) → mapped plan_of (snapshot.read text) ≡ Read plan left → IsRead text plan
was_whole text left plan e =
    let s = was_read plan_of (snapshot.read text) plan left e in
    let said : Says snapshot text (Read s.0 left) = subst (λ (r : Reading Snapshot). Says snapshot text r) s.1 (snapshot_spells.says text) in
    let none : left ≡ [] = snapshot_spells.whole text s.0 left s.1 in
    record {
      says = s.0;
      lawful = said.0;
      written = sym (said.1 ∙ (ap (λ (l : List ℕ). snapshot.write s.0 ++ l) none ∙ append-nil (snapshot.write s.0)));
      is_plan = s.2;
    }

told : (text : List ℕ) (r : Reading Snapshot) → snapshot.read text ≡ r → Tells snapshot text (ended text r)
told text r e = subst (λ (x : Reading Snapshot). Tells snapshot text (ended text x)) e ((reads_to_the_end snapshot snapshot_spells).tells text)

-- a text that ends too early
pub ends_early : (text : List ℕ) (number : ℕ) → mapped plan_of (snapshot.read text) ≡ Short → number ≡ line_count text → IsFirstFault snapshot (number + 1) text
ends_early text number e last =
    let same : suc (line_count text) ≡ number + 1 = omega (arith, last) in
    subst (λ (n : ℕ). IsFirstFault snapshot n text) same (told text Short ((unmapped plan_of (snapshot.read text)).short e))

-- lines behind a place are lines of the text
ends_behind : (before rest : List ℕ) → line_ends rest ≤ line_ends (before ++ rest)
ends_behind [] rest = omega arith
ends_behind (c ∷ before) rest =
    let h = ends_behind before rest in
    elim (cases_Bool (eqb c 10)) [
      | inl e ↦ rw e (omega (arith, h))
      | inr e ↦ rw e h
    ]

left_ends : (text left : List ℕ) → Stops snapshot text left → line_ends left ≤ line_ends text
left_ends text left s = subst (λ (t : List ℕ). line_ends left ≤ line_ends t) (sym s.cut) (ends_behind s.before left)

-- a text that goes on as none does
wrong_at : (text : List ℕ) (here : Place) → mapped plan_of (snapshot.read text) ≡ Wrong here.left → lines_to here ≡ 1 + line_ends text
    → IsFirstFault snapshot here.line text
wrong_at text here e ends =
    let wrong : snapshot.read text ≡ Wrong here.left = (unmapped plan_of (snapshot.read text)).wrong here.left e in
    let stops : Stops snapshot text here.left = subst (λ (r : Reading Snapshot). Says snapshot text r) wrong (snapshot_spells.says text) in
    let few : line_ends here.left ≤ line_ends text = left_ends text here.left stops in
    let same : line_of text here.left ≡ here.line = omega (arith, few, ends) in
    subst (λ (n : ℕ). IsFirstFault snapshot n text) same (told text (Wrong here.left) wrong)

pub goes_wrong : (text : List ℕ) (start here : Place) → start.line ≡ 1 → start.left ≡ text → mapped plan_of (snapshot.read start.left) ≡ Wrong here.left
    → lines_to here ≡ lines_to start → IsFirstFault snapshot here.line text
goes_wrong text start here one whole e passed =
    let ends : line_ends start.left ≡ line_ends text = ap line_ends whole in
    wrong_at text here (subst (λ (t : List ℕ). mapped plan_of (snapshot.read t) ≡ Wrong here.left) whole e) (omega (arith, one, ends, passed))
