-- The RAM of each guest is in its range, and so is its disk.
use Rattle.std.proofs.Common.{List, [], ◌∷◌, ◌++◌, map, sym, subst}
use Rattle.std.proofs.lemmas.List.{map-append}
use Rattle.std.proofs.lemmas.List.Elements.{All-append, All-cons, All-nil}
use Rattle.mb_script.specs.declared.plan.GuestPlan.{GuestPlan}
use Rattle.mb_script.specs.Answers.{guest_said}
use Rattle.std.specs.Prelude.{All}
use Rattle.mb_script.specs.Plan.{Guest, AreRams, HasDisk, IsRam}

all_pushed : (P : Guest → Type 0) (guests : List GuestPlan) (guest : GuestPlan) → All P (map guest_said guests) → P (guest_said guest)
    → All P (map guest_said (guests ++ guest ∷ []))
all_pushed P guests guest are is =
    let one : All P (guest_said guest ∷ []) = All-cons P (guest_said guest) [] is (All-nil P) in
    subst (All P) (sym (map-append guest_said guests (guest ∷ [])))
    (All-append P (map guest_said guests) (guest_said guest ∷ []) are one)

pub pushed : (guests : List GuestPlan) (guest : GuestPlan) → AreRams (map guest_said guests) → IsRam (guest_said guest).ram
    → AreRams (map guest_said (guests ++ guest ∷ []))
pushed guests guest are is = all_pushed (λ (g : Guest). IsRam g.ram) guests guest are is

pub pushed_disk : (guests : List GuestPlan) (guest : GuestPlan) → All HasDisk (map guest_said guests) → HasDisk (guest_said guest)
    → All HasDisk (map guest_said (guests ++ guest ∷ []))
pushed_disk guests guest are is = all_pushed HasDisk guests guest are is
