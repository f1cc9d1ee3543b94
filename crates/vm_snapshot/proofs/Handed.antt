-- Answers that are handed on.
use Rattle.std.proofs.Common.{◌≡◌, ℕ, true, false, List, sym, subst, ◌∙◌}
use Rattle.std.specs.Prelude.{Result, Ok, Err, IsErr, IsErrAnd}
use Rattle.mb_spelling.specs.Spelling.{Reading, Short, Wrong}
use Rattle.mb_spelling.specs.declared.stop.Stop.{Stop}
use Rattle.mb_spelling.specs.declared.stop.Stop.TheVariants as stop
use Rattle.mb_spelling.specs.Reads.{Reads}
use Rattle.vm_snapshot.specs.declared.refusal.Refusal.{Refusal}
use Rattle.vm_snapshot.specs.declared.refusal.Refusal.TheVariants as refusal
use Rattle.vm_snapshot.specs.Views.{ReadsOr}

-- Where the part stops, the whole does.
pub record StopsWith {A B : Type 0} (part : Reading B) (whole : Reading A) : Type 0 where
  pub short : part ≡ Short → whole ≡ Short
  pub wrong : (rest : List ℕ) → part ≡ Wrong rest → whole ≡ Wrong rest

pub stops_same : {A : Type 0} (r : Reading A) → StopsWith r r
stops_same r = record { short = λ e. e; wrong = λ rest e. e }

pub stops_on : {A B C : Type 0} {part : Reading C} {middle : Reading B} {whole : Reading A} → StopsWith part middle → StopsWith middle whole
    → StopsWith part whole
stops_on first second = record { short = λ e. second.short (first.short e); wrong = λ rest e. second.wrong rest (first.wrong rest e) }

pub stops_as : {A B : Type 0} {part : Reading B} {whole same : Reading A} → whole ≡ same → StopsWith part same → StopsWith part whole
stops_as e stops = record { short = λ s. e ∙ stops.short s; wrong = λ rest s. e ∙ stops.wrong rest s }

pub handed_stop : {X Y A B : Type 0} (view : X → A) (other : Y → B) (r : Result X Stop) (why : Stop) (left : List ℕ) (part : Reading B) (whole : Reading A)
    → IsErr r → IsErrAnd r (λ e. e ≡ why) → Reads {X = Y} other (Err why) left part → StopsWith part whole → Reads view r left whole
handed_stop view other (Ok x) why left part whole is same e stops = absurd (let contrary : false ≡ true = is in cc)
handed_stop view other (Err f) stop.Short left part whole is same e stops =
    subst (λ (x : Stop). Reads view (Err x) left whole) (sym same) (stops.short e)
handed_stop view other (Err f) stop.Wrong left part whole is same e stops =
    subst (λ (x : Stop). Reads view (Err x) left whole) (sym same) (stops.wrong left e)

pub handed_on : {X Y A B : Type 0} (view : X → A) (other : Y → B) (r : Result X Refusal) (why : Stop) (left : List ℕ) (part : Reading B) (whole : Reading A)
    → IsErr r → IsErrAnd r (λ e. e ≡ refusal.Stopped why) → Reads {X = Y} other (Err why) left part → StopsWith part whole → ReadsOr view r left whole
handed_on view other (Ok x) why left part whole is same e stops = absurd (let contrary : false ≡ true = is in cc)
handed_on view other (Err f) stop.Short left part whole is same e stops =
    subst (λ (x : Refusal). ReadsOr view (Err x) left whole) (sym same) (stops.short e)
handed_on view other (Err f) stop.Wrong left part whole is same e stops =
    subst (λ (x : Refusal). ReadsOr view (Err x) left whole) (sym same) (stops.wrong left e)

passed : {X Y A B : Type 0} (view : X → A) (other : Y → B) (e : Refusal) (left : List ℕ) (part : Reading B) (whole : Reading A)
    → ReadsOr {X = Y} other (Err e) left part → StopsWith part whole → ReadsOr {X = X} view (Err e) left whole
passed view other refusal.Memory left part whole h stops = tt
passed view other (refusal.Stopped stop.Short) left part whole h stops = stops.short h
passed view other (refusal.Stopped stop.Wrong) left part whole h stops = stops.wrong left h

pub passed_on : {X Y A B : Type 0} (view : X → A) (other : Y → B) (r : Result X Refusal) (e : Refusal) (left : List ℕ) (part : Reading B) (whole : Reading A)
    → IsErr r → IsErrAnd r (λ f. f ≡ e) → ReadsOr {X = Y} other (Err e) left part → StopsWith part whole → ReadsOr view r left whole
passed_on view other (Ok x) e left part whole is same h stops = absurd (let contrary : false ≡ true = is in cc)
passed_on view other (Err f) e left part whole is same h stops =
    subst (λ (x : Refusal). ReadsOr view (Err x) left whole) (sym same) (passed view other e left part whole h stops)
