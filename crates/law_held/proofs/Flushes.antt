-- Flushes of the shadow.
use Rattle.std.specs.Prelude.{IfSome}
use Rattle.std.proofs.Common.{◌≡◌, ℕ, Bool, false, cond, List, [], ◌∷◌, refl, ap, sym, ◌∙◌, subst, inl, inr, Option, Some, None}
use Rattle.std.proofs.lemmas.Bool.{cases_Bool}
use Rattle.mb_port.specs.declared.types.Space.{Space}
use Rattle.mb_port.specs.declared.types.Flush.{Flush}
use Rattle.mb_port.specs.declared.types.Flush.TheVariants.{All, AllLocal, Page, PageLocal}
use Rattle.mb_model.specs.declared.kept.Kept.{Kept}
use Rattle.mb_model.specs.Keeping.{KeptLists, is_of, entry_in, list_of, covers, flushed, flushed_in, Apart}
use Rattle.mb_model.proofs.ApartLemmas.{flushed_in-apart}
use Rattle.mb_model.proofs.Found.{find_yes, find_no, flushed_stays}
use Rattle.def_machine.specs.World.{World}
use Rattle.vm_shadow.specs.Shadows.{Shadowed, nothing, dropped}
use Rattle.def_guests.specs.Guests.{Guest, Truthful}
use Rattle.def_guests.specs.Bus.{dropped_all, shadow_after_flush}
use Rattle.law_held.specs.Truth.{Fine}
use Rattle.law_held.proofs.Accesses.{truthful_less}

-- ---- what is kept

-- the one list after a flush
flushed_one : (what : Flush) (kept : KeptLists) → kept ≡ list_of 0 kept ∷ [] → flushed what kept ≡ flushed_in what (list_of 0 kept) ∷ []
flushed_one what kept e = ap (λ (l : KeptLists). flushed what l) e

-- one list is kept, whose entries are apart
pub record IsOneList (kept : KeptLists) : Type 0 where
  pub one : kept ≡ list_of 0 kept ∷ []
  pub apart : Apart (list_of 0 kept)

pub flushed_kept : (what : Flush) (kept : KeptLists) → IsOneList kept → IsOneList (flushed what kept)
flushed_kept what kept k =
    let one = flushed_one what kept k.one in
    let list : list_of 0 (flushed what kept) ≡ flushed_in what (list_of 0 kept) = ap (λ (l : KeptLists). list_of 0 l) one in
    record {
      one = one ∙ ap (λ (l : List Kept). l ∷ []) (sym list);
      apart = subst Apart (sym list) (flushed_in-apart what (list_of 0 kept) k.apart);
    }

-- ---- what is left of the shadow

-- a shadow without entries is truthful, whatever is kept
pub nothing_truthful : (size : ℕ) (w : World) → Truthful size (record { world = w; shadow = nothing })
nothing_truthful size w = record {
  reads = λ code space at frame writable e. absurd (let y : ⊥ = cc in y);
  writes = λ space at frame e. absurd (let y : ⊥ = cc in y);
  inside = λ space page frame writable e. absurd (let y : ⊥ = cc in y);
}

-- an entry that is left after a drop was there, and is of another page
dropped_left : (k : Kept) (shadow : Shadowed) (space : Space) (page : ℕ) (e : ℕ × Bool) → (dropped k.space k.page shadow).entries space page ≡ Some e
    → (shadow.entries space page ≡ Some e) × (is_of space page k ≡ false)
dropped_left k shadow space page e h = elim (cases_Bool (is_of space page k)) [
  | inl is ↦ absurd (let z : None ≡ Some e = sym (ap (λ (b : Bool). cond b None (shadow.entries space page)) is) ∙ h in let y : ⊥ = cc in y)
  | inr other ↦ (sym (ap (λ (b : Bool). cond b None (shadow.entries space page)) other) ∙ h, other)
]

-- an entry that is left after a flush was there, and the kept entry of its page is not covered
flushed_left : (what : Flush) (ks : List Kept) (shadow : Shadowed) (space : Space) (page : ℕ) (e : ℕ × Bool)
    → (dropped_all what ks shadow).entries space page ≡ Some e
    → (shadow.entries space page ≡ Some e) × IfSome (entry_in space page ks) (λ k. covers what k ≡ false)
flushed_left what [] shadow space page e h = (h, tt)
flushed_left what (k ∷ ks) shadow space page e h =
    let NotCovered : Option Kept → Type 0 = λ o. IfSome o (λ k. covers what k ≡ false) in
    let without : Bool → Shadowed = λ b. dropped_all what ks (cond b (dropped k.space k.page shadow) shadow) in
    elim (cases_Bool (covers what k)) [
      | inl gone ↦
          let (left, rest) = flushed_left what ks (dropped k.space k.page shadow) space page e (sym (ap (λ (b : Bool). (without b).entries space page) gone)
          ∙ h) in
          let (there, other) = dropped_left k shadow space page e left in
          (there, subst NotCovered (sym (find_no (is_of space page) k ks other)) rest)
      | inr stays ↦
          let (left, rest) = flushed_left what ks shadow space page e (sym (ap (λ (b : Bool). (without b).entries space page) stays) ∙ h) in (
            left,
            elim (cases_Bool (is_of space page k)) [
              | inl here ↦ subst NotCovered (sym (find_yes (is_of space page) k ks here)) stays
              | inr other ↦ subst NotCovered (sym (find_no (is_of space page) k ks other)) rest
            ],
          )
    ]

-- the guest once its kept entries that are covered have gone, with any memory
pub dropped_truthful : (size : ℕ) (what : Flush) (g : Guest) (ram : List ℕ) → Fine size g
    → Truthful size (record {
      world = record g.world { ram = ram; kept = flushed what g.world.kept };
      shadow =
          dropped_all what (list_of 0 g.world.kept) g.shadow;
    })
dropped_truthful size what g ram fine =
    let kept = list_of 0 g.world.kept in
    let list : list_of 0 (flushed what g.world.kept) ≡ flushed_in what kept = ap (λ (l : KeptLists). list_of 0 l) (flushed_one what g.world.kept fine.one) in
    truthful_less size g (record { world = record g.world { ram = ram; kept = flushed what g.world.kept }; shadow = dropped_all what kept g.shadow }) refl
    (λ space page frame writable e.
    let (old, stays) = flushed_left what kept g.shadow space page (frame, writable) e in
    (old, ap (entry_in space page) list ∙ flushed_stays what space page kept stays)) fine.sound.truthful

pub flush_truthful : (size : ℕ) (what : Flush) (g : Guest) → Fine size g
    → Truthful size (record { world = record g.world { kept = flushed what g.world.kept }; shadow = shadow_after_flush what g.world.kept g.shadow })
flush_truthful size All g fine = nothing_truthful size (record g.world { kept = flushed All g.world.kept })
flush_truthful size AllLocal g fine = dropped_truthful size AllLocal g g.world.ram fine
flush_truthful size (Page space page) g fine = dropped_truthful size (Page space page) g g.world.ram fine
flush_truthful size (PageLocal space page) g fine = dropped_truthful size (PageLocal space page) g g.world.ram fine
