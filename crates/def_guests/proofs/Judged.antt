-- What the shadow allows leaves it as it is, and how far an attempt is judged.
use Rattle.std.proofs.Common.{◌≡◌, ◌∙◌, ℕ, Bool, true, false, cond, refl, ap}
use Rattle.std.specs.Prelude.{Option, Some, None, not, ◌&&◌, ◌||◌, length}
use Rattle.mb_port.specs.declared.types.Space.{Space}
use Rattle.law_routines.proofs.Finished.{finish_until, stops_at_refused}
use Rattle.mb_instr.specs.Registers.{plain_of}
use Rattle.mb_model.specs.Keeping.{rule_k}
use Rattle.mb_model.specs.Pages.{page_of}
use Rattle.mb_model.specs.Status.{space_of}
use Rattle.def_instructions.specs.Attempt.{attempt_of}
use Rattle.def_machine.specs.declared.reference.Reference.{Reference}
use Rattle.def_machine.specs.declared.reference.Settled.{Settled}
use Rattle.def_machine.specs.declared.reference.Settled.TheVariants.{To}
use Rattle.def_machine.specs.World.{World}
use Rattle.def_machine.specs.Access.{settled, by_settled, translated}
use Rattle.vm_shadow.specs.Shadows.{Shadowed, with_page_put}
use Rattle.def_guests.specs.Guests.{Guest, Truthful, ref, lets, allows, may, placed_at}
use Rattle.def_guests.specs.Bus.{gone_settled, without_kept, is_split, is_in_ram, is_writable, put_entry_of, guest_bus}
use Rattle.def_guests.specs.Laws.{AllowedAccessesAreStill, AttemptsAreJudged}

-- ---- an access that is allowed

lets_writes : (writable : Bool) → (not true || writable) ≡ true → writable ≡ true
lets_writes true h = refl
lets_writes false h = absurd (cc h)

-- it is known where it leads
settled_by : (size : ℕ) (g : Guest) (code : Bool) (space : Space) (at : ℕ) (write : Bool) → Truthful size g → (write ≡ true → code ≡ false)
    → (entry : Option (ℕ × Bool)) → g.shadow.entries space (page_of at) ≡ entry → lets entry write ≡ true
    → (place : ℕ) × (settled rule_k g.world.mmu g.world.kept (ref code space at write) ≡ To place)
settled_by size g code space at write t side None e h = absurd (let z : ⊥ = cc h in z)
settled_by size g code space at false t side (Some (frame, writable)) e h = (placed_at frame at, t.reads code space at frame writable e)
settled_by size g code space at true t side (Some (frame, writable)) e h =
    let same : g.shadow.entries space (page_of at) ≡ Some (frame, true) =
    e ∙ ap (λ (w : Bool). (let entry : Option (ℕ × Bool) = Some (frame, w) in entry)) (lets_writes writable h) in (
      placed_at frame at,
      ap (λ (side : Bool). settled rule_k g.world.mmu g.world.kept (ref side space at true)) (side refl) ∙ t.writes space at frame same,
    )

last_not : (a b c : Bool) → c ≡ true → (a && (b && not c)) ≡ false
last_not true true c h = ap not h
last_not true false c h = refl
last_not false b c h = refl

-- nothing is put where the shadow allows
puts_nothing : (w : World) (r : Reference) (at : ℕ) (shadow : Shadowed) → allows shadow r ≡ true → put_entry_of w r shadow (Some at) ≡ shadow
puts_nothing w r at shadow h =
    ap (λ (b : Bool). cond b (with_page_put r.space (page_of r.at) (page_of at) (is_writable w r.space (page_of r.at)) shadow) shadow)
    (last_not (is_in_ram (length w.ram) at) (not (is_split w.mmu r.space (page_of r.at))) (allows shadow r) h)

pub allowed_accesses_are_still : AllowedAccessesAreStill
unfolding translated
allowed_accesses_are_still size g r truthful is allowed =
    let entry = g.shadow.entries r.space (page_of r.at) in
    let (place, known) = settled_by size g r.code r.space r.at r.write truthful is entry refl allowed in record {
      shadow =
          ap (λ (s : Settled). (let t = by_settled rule_k g.world r s in put_entry_of t.1 r (without_kept (gone_settled g.world r s) g.shadow) t.0)) known
          ∙ puts_nothing g.world r place g.shadow allowed;
      world = ap (λ (s : Settled). (by_settled rule_k g.world r s).1) known;
    }

-- ---- an attempt

pub attempts_are_judged : AttemptsAreJudged
attempts_are_judged cpu g =
    let m = attempt_of (space_of cpu) (plain_of cpu.regs) in record {
      class = refl;
      first = stops_at_refused may guest_bus m g;
      whole = finish_until may guest_bus m g;
    }
