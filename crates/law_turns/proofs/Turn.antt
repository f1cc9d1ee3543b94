-- A turn by its parts.
use Rattle.std.proofs.Common.{◌≡◌, ◌∙◌, ℕ, ◌/◌, ◌%◌, ◌^◌, ◌<◌, ◌≤◌, not, false, List, [], ◌∷◌, ◌++◌, length, arith, refl, ap, sym, subst}
use Rattle.std.specs.Prelude.{slice_index}
use Rattle.mb_port.specs.Routine.{run}
use Rattle.mb_instr.specs.declared.registers.Plain.{Plain}
use Rattle.mb_instr.specs.declared.registers.Regs.{Regs}
use Rattle.mb_instr.specs.Registers.{is_supervisor, is_master, active_stack, plain_of}
use Rattle.def_processor.specs.Raise.{Stepped, traces_all, traces_flow}
use Rattle.mb_port.specs.declared.types.Mmu.{Mmu}
use Rattle.mb_port.specs.declared.types.Space.{Space}
use Rattle.mb_port.specs.declared.types.Space.TheVariants.{User}
use Rattle.mb_model.specs.Pages.{has_big_pages}
use Rattle.def_machine.specs.Access.{untranslated}
use Rattle.def_machine.specs.Machine.{asked_of}
use Rattle.vm_shadow.specs.Mapped.{root_of}
use Rattle.def_runs.proofs.KeptLemmas.{none-kept}
use Rattle.law_attempts.specs.Attempts.{IsUntraced}
use Rattle.def_processor.specs.declared.Finish.TheVariants as finish
use Rattle.def_guests.specs.Guests.{Guest, ref}
use Rattle.def_guests.specs.Bus.{guest_bus}
use Rattle.law_mirror.specs.Ready.{native_mmu}
use Rattle.law_mirror.proofs.Ready.{starts_flushed}
use Rattle.def_guests.specs.declared.class.Class.{Class}
use Rattle.def_guests.specs.Turns.{bus_side, guest_begun, guest_processed, guest_later, class_of_step}
use Rattle.def_guests.specs.Turns.{refills_of_step, by_class}
use Rattle.law_turns.proofs.Refill.{none_is_refilled}
use Rattle.def_guests.specs.Exits.{class_of_vector, handed_by, frame_access, rest_by_frame}
use Rattle.law_turns.specs.Exit.{left_guest}
use Rattle.law_turns.specs.Turn.{FlushedIsSet, MoreStaysSet, BoardsAreReady, ExitsAdvance}
use Rattle.mb_instr.proofs.PlainRegisters.{plain_again, seven}
use Rattle.law_turns.proofs.Registers.{same_word, same_user, same_mask, stays_plain, is_set, IsTidy}
use Rattle.mb_frames.specs.declared.places.TheConstants.{LONGEST}

-- ---- ready again

pub plain_tidy : (r : Regs) → length r.a ≡ 7 → IsTidy (plain_of r)
plain_tidy r h =
    let top = active_stack r in
    let (first, last) = seven r.a top h in
    ap (λ (a : List ℕ). (let p : Plain = record { d = r.d; a = a ++ slice_index (r.a ++ top ∷ []) 7 ∷ []; pc = r.pc; ccr = r.sr % 2 ^ 5 % 2 ^ 5 } in p)) first
    ∙ ap (λ (t : ℕ). (let p : Plain = record { d = r.d; a = r.a ++ t ∷ []; pc = r.pc; ccr = r.sr % 2 ^ 5 % 2 ^ 5 } in p)) last
    ∙ ap (λ (c : ℕ). (let p : Plain = record { d = r.d; a = r.a ++ top ∷ []; pc = r.pc; ccr = c } in p)) (let e : r.sr % 2 ^ 5 % 2 ^ 5 ≡ r.sr % 2 ^ 5 =
    omega arith in e)

pub flushed_is_set : FlushedIsSet
flushed_is_set x ram d off = record { mmu = refl; on = off; kept = λ k is. absurd (none-kept 32 k is) }

pub more_stays_set : MoreStaysSet
more_stays_set x y world ram area space more set = record {
  mmu = set.mmu ∙ ap (λ (at : ℕ). native_mmu (root_of at x.space)) (sym area) ∙ ap (λ (s : Space). native_mmu (root_of y.slots.area s)) (sym space);
  on = set.on;
  kept = λ k is user. let (there, alone) = set.kept k is user in (more k.page (k.frame, not k.w) there, alone);
}

pub boards_are_ready : BoardsAreReady
boards_are_ready x c world steps state g n set present has s =
    let p = plain_of g.machine.cpu.regs in
    let user : is_supervisor c.regs.sr ≡ false = ap is_supervisor n.status in
    let plain : IsUntraced c = record { going = n.awake; all = ap traces_all n.status; flow = ap traces_flow n.status } in
    let same = is_set p c user in
    let b = record world { kept = [] } in
    let tables = starts_flushed x b (bus_side g) s.bytes s.maps s.under s.whole s.ram_is s.shadow s.truthful in (
      record {
        on = set.on;
        user = same_user p c ∙ user;
        goes = stays_plain p c plain;
        mask = same_mask p c ∙ ap (λ (k : ℕ). k / 2 ^ 8 % 2 ^ 3) n.status;
        plain = plain_again c.regs p ∙ plain_tidy g.machine.cpu.regs has;
        present = present;
        related = record {
          bytes = s.bytes;
          maps = s.maps;
          under = s.under;
          whole = s.whole;
          ram = s.ram_is;
          root = ap (λ (m : Mmu). m.urp) set.mmu;
          small = ap has_big_pages set.mmu;
          shadow = s.shadow;
          kept = set.kept;
          no_match = λ code at write. ap (λ (m : Mmu). untranslated m (ref code User at write)) set.mmu ∙ tables.no_match code at write;
          truthful = s.truthful;
        };
      },
      record {
        mmu = set.mmu;
        status = same_word _ c.regs.sr same.upper (subst (λ (k : ℕ). k < 2 ^ 16) (sym n.status) (omega arith));
        master = same.master ∙ ap is_master n.status;
        vectors = n.vectors;
        stack = subst (λ (k : ℕ). LONGEST ≤ k) (sym same.isp) n.stack;
        below = subst (λ (k : ℕ). k ≤ x.base) (sym same.isp) n.below;
        table = s.table;
        small = s.small;
      },
    )

-- ---- a turn

same_number : (v n : ℕ) → finish.Entered v ≡ finish.Entered n → v ≡ n
same_number v n e = cc

pub exits_advance : ExitsAdvance
exits_advance x script u v m after l wide last =
    let b = guest_begun script u.guest in
    let h = left_guest x after.world.ram (bus_side b) in
    let is : v ≡ l.vector = same_number v l.vector l.entered in
    let of : ℕ → Stepped × Guest =
    λ n. run guest_bus (rest_by_frame n (frame_access l.frame) (asked_of script b.machine) b.machine.cpu (handed_by after.cpu.regs l.frame)) h in
    let rest : guest_processed script b ≡ of v = l.rest wide ∙ ap of (sym is) in
    let (class, none) = none_is_refilled script u.guest last in
    ap (λ (r : Stepped × Guest). by_class (class_of_step script u.guest) (refills_of_step script u.guest) (guest_later b.machine r) u) rest
    ∙ ap (λ (n : ℕ). by_class (class_of_step script u.guest) n (guest_later b.machine (of v)) u) none
    ∙ ap (λ (c : Class). by_class c 0 (guest_later b.machine (of v)) u) (class ∙ sym (ap class_of_vector is ∙ l.class))
