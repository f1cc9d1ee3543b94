-- Each call of the guest keeps its shadow truthful.
use Rattle.std.proofs.Common.{length, subst, sym, ◌≡◌, ℕ, Bool, true, false, [], ◌∷◌, refl, ap, ◌∙◌, Option, Some, None}
use Rattle.mb_port.specs.Routine.{Return, Ask, Then, Routine, run, Call, Fetch, Read, Write, ReadLine, WriteLine, Probe, Get, Put, ReadMmu, FlushKept, Test, ResetDevices, SetMmu}
use Rattle.mb_model.specs.Keeping.{list_of, Apart, KeptLists, rule_k, flushed, after_ptest}
use Rattle.mb_walk.specs.Memory.{AreBytes}
use Rattle.def_machine.specs.World.{World, HasBytes}
use Rattle.def_machine.specs.Access.{translated, matched, or_off, untranslated, by_match, settled, root_of}
use Rattle.def_machine.specs.Bus.{bus_of, fetching_of, reading_of, writing_of, after_set_mmu, tested_by}
use Rattle.def_machine.specs.Laws.{IsBeneath}
use Rattle.def_machine.proofs.Bytes.{bus-bytes}
use Rattle.def_machine.proofs.Beneath.{calls_leave_the_size, calls_stand_beneath, places_stand_beneath}
use Rattle.mb_port.specs.declared.types.Flush.{Flush}
use Rattle.mb_port.specs.declared.types.Space.{Space}
use Rattle.mb_port.specs.declared.types.Mmu.{Mmu}
use Rattle.mb_port.specs.declared.types.MmuReg.{MmuReg}
use Rattle.mb_port.specs.declared.types.MmuReg.TheVariants.{Tc, Itt0, Itt1, Dtt0, Dtt1, Mmusr, Urp, Srp}
use Rattle.mb_port.specs.declared.types.Flush.TheVariants.{All, Page}
use Rattle.mb_walk.proofs.Again.{searches_mark}
use Rattle.def_machine.specs.declared.reference.Reference.{Reference}
use Rattle.mb_model.specs.Pages.{page_of, has_big_pages, other_half}
use Rattle.vm_shadow.specs.Shadows.{Shadowed, nothing}
use Rattle.def_guests.specs.Bus.{accessed, guest_bus, shadow_after_flush, shadow_after_drop, shadow_after_test, shadow_after}
use Rattle.law_held.specs.Truth.{CallsKeepTruth, Fine}
use Rattle.law_held.proofs.Puts.{accesses_keep_truth}
use Rattle.law_held.proofs.Flushes.{flush_truthful, IsOneList, flushed_kept, nothing_truthful}
use Rattle.def_guests.specs.Guests.{Guest, ref}

-- ---- registers and tests

kept_of : (size : ℕ) (g : Guest) → Fine size g → IsOneList g.world.kept
kept_of size g fine = record { one = fine.one; apart = fine.apart }

forgotten : (size : ℕ) (g : Guest) (mmu : Mmu) → Fine size g
    → Fine size (record { world = record g.world { mmu = mmu; kept = flushed All g.world.kept }; shadow = nothing })
forgotten size g mmu fine =
    let k = flushed_kept All g.world.kept (kept_of size g fine) in
    record {
      sound = record {
        truthful = nothing_truthful size (record g.world { mmu = mmu; kept = flushed All g.world.kept });
        count = fine.sound.count;
        bytes =
            fine.sound.bytes;
      };
      one = k.one;
      apart = k.apart;
    }

-- MMUSR is none of what translates
unseen_side : (mmu : Mmu) (value : ℕ) (code : Bool) (space : Space) (page : ℕ)
    → matched code (record mmu { mmusr = value }) space page ≡ matched code mmu space page
unseen_side mmu value true space page = refl
unseen_side mmu value false space page = refl

unseen_off : (mmu : Mmu) (value : ℕ) (o : Option Bool) → or_off (record mmu { mmusr = value }) o ≡ or_off mmu o
unseen_off mmu value (Some protected) = refl
unseen_off mmu value None = refl

unseen_by : (mmu : Mmu) (value : ℕ) (r : Reference) → untranslated (record mmu { mmusr = value }) r ≡ untranslated mmu r
unseen_by mmu value r =
    unseen_off mmu value (matched r.code (record mmu { mmusr = value }) r.space (page_of r.at))
    ∙ ap (or_off mmu) (unseen_side mmu value r.code r.space (page_of r.at))

unseen_settled : (mmu : Mmu) (value : ℕ) (kept : KeptLists) (r : Reference) → settled rule_k (record mmu { mmusr = value }) kept r ≡ settled rule_k mmu kept r
unseen_settled mmu value kept r = ap (by_match rule_k kept r) (unseen_by mmu value r)

unseen : (size : ℕ) (g : Guest) (value : ℕ) → Fine size g → Fine size (record g { world = record g.world { mmu = record g.world.mmu { mmusr = value } } })
unseen size g value fine =
    let t = fine.sound.truthful in
    record {
      sound = record {
        truthful = record {
          reads = λ code space at frame writable e. unseen_settled g.world.mmu value g.world.kept (ref code space at false)
              ∙ t.reads code space at frame writable e;
          writes = λ space at frame e. unseen_settled g.world.mmu value g.world.kept (ref false space at true) ∙ t.writes space at frame e;
          inside = t.inside;
        };
        count = fine.sound.count;
        bytes = fine.sound.bytes;
      };
      one = fine.one;
      apart = fine.apart;
    }

register_fine : (size : ℕ) (g : Guest) (which : MmuReg) (value : ℕ) → Fine size g
    → Fine size (record { world = after_set_mmu rule_k which value g.world; shadow = shadow_after (SetMmu which value) g.world g.shadow })
register_fine size g Tc value fine = forgotten size g _ fine
register_fine size g Itt0 value fine = forgotten size g _ fine
register_fine size g Itt1 value fine = forgotten size g _ fine
register_fine size g Dtt0 value fine = forgotten size g _ fine
register_fine size g Dtt1 value fine = forgotten size g _ fine
register_fine size g Mmusr value fine = unseen size g _ fine
register_fine size g Urp value fine = forgotten size g _ fine
register_fine size g Srp value fine = forgotten size g _ fine

-- ---- what stands behind an access

-- Memory and devices may differ, as far as memory has as many bytes.
fine_behind : (size : ℕ) (w u : World) (shadow : Shadowed) → Fine size (record { world = w; shadow = shadow }) → IsBeneath w u → length u.ram ≡ size
    → AreBytes u.ram
    → Fine size (record { world = u; shadow = shadow })
fine_behind size w u shadow fine b count bytes =
    let t = fine.sound.truthful in
    let same : (r : Reference) → settled rule_k u.mmu u.kept r ≡ settled rule_k w.mmu w.kept r =
    λ r. ap (λ (m : Mmu). settled rule_k m u.kept r) b.mmu ∙ ap (λ (k : KeptLists). settled rule_k w.mmu k r) b.kept in
    let list : list_of 0 u.kept ≡ list_of 0 w.kept = ap (λ (k : KeptLists). list_of 0 k) b.kept in
    record {
      sound = record {
        truthful = record {
          reads = λ code space at frame writable e. same (ref code space at false) ∙ t.reads code space at frame writable e;
          writes = λ space at frame e. same (ref false space at true) ∙ t.writes space at frame e;
          inside = t.inside;
        };
        count = count;
        bytes = bytes;
      };
      one = b.kept ∙ fine.one ∙ ap (λ l. l ∷ []) (sym list);
      apart = subst Apart (sym list) fine.apart;
    }

module _ (size : ℕ) (c : Call) (g : Guest) (fine : Fine size g) where
  has_bytes : HasBytes g.world
  has_bytes = record { bytes = fine.sound.bytes }

  abbrev after : World
  after = (bus_of rule_k c g.world).1

  count_after : length after.ram ≡ size
  count_after = calls_leave_the_size rule_k c g.world ∙ fine.sound.count

  bytes_after : AreBytes after.ram
  bytes_after = (bus-bytes rule_k c g.world has_bytes).bytes

  -- of a reference that the call makes
  pub fine_access : (r : Reference) → IsBeneath (translated rule_k r g.world).1 (bus_of rule_k c g.world).1
      → Fine size (record { world = (bus_of rule_k c g.world).1; shadow = accessed r g.world g.shadow })
  fine_access r b =
      fine_behind size (translated rule_k r g.world).1 (bus_of rule_k c g.world).1 (accessed r g.world g.shadow) (accesses_keep_truth size r g fine) b
      count_after bytes_after

  -- of none
  pub fine_place : IsBeneath g.world (bus_of rule_k c g.world).1 → Fine size (record { world = (bus_of rule_k c g.world).1; shadow = g.shadow })
  fine_place b = fine_behind size g.world (bus_of rule_k c g.world).1 g.shadow fine b count_after bytes_after

-- ---- every call

-- the calls that translate nothing
unchanged_fine : (size : ℕ) (g : Guest) → Fine size g → Fine size (record { world = (bus_of rule_k ReadMmu g.world).1; shadow = g.shadow })
unchanged_fine size g fine = fine

set_fine : (size : ℕ) (g : Guest) (which : MmuReg) (value : ℕ) → Fine size g
    → Fine size (record { world = (bus_of rule_k (SetMmu which value) g.world).1; shadow = shadow_after (SetMmu which value) g.world g.shadow })
set_fine size g which value fine = register_fine size g which value fine

flush_fine : (size : ℕ) (g : Guest) (what : Flush) → Fine size g
    → Fine size (record { world = record g.world { kept = flushed what g.world.kept }; shadow = shadow_after_flush what g.world.kept g.shadow })
flush_fine size g what fine =
    let k = flushed_kept what g.world.kept (kept_of size g fine) in
    record {
      sound = record { truthful = flush_truthful size what g fine; count = fine.sound.count; bytes = fine.sound.bytes };
      one = k.one;
      apart = k.apart;
    }

flushed_fine : (size : ℕ) (g : Guest) (what : Flush) → Fine size g
    → Fine size (record { world = (bus_of rule_k (FlushKept what) g.world).1; shadow = shadow_after_flush what g.world.kept g.shadow })
flushed_fine size g what fine = flush_fine size g what fine

-- PTEST drops a page, or both halves of one
drop_fine : (size : ℕ) (g : Guest) (big : Bool) (space : Space) (page : ℕ) → Fine size g → Fine size (record {
  world = record g.world { kept = after_ptest big space page g.world.kept };
  shadow = shadow_after_drop big space page g.world.kept g.shadow;
})
drop_fine size g false space page fine = flush_fine size g (Page space page) fine
drop_fine size g true space page fine =
    let one : Guest = record {
      world = record g.world { kept = flushed (Page space page) g.world.kept };
      shadow = shadow_after_flush (Page space page) g.world.kept g.shadow;
    } in
    flush_fine size one (Page space (other_half page)) (flush_fine size g (Page space page) fine)

test_fine : (size : ℕ) (g : Guest) (space : Space) (page : ℕ) (write : Bool) (o : Option Bool) → Fine size g → Fine size (record {
  world = (tested_by g.world space page write o).1;
  shadow = shadow_after_test (has_big_pages g.world.mmu) o space page g.world.kept g.shadow;
})
test_fine size g space page write (Some protected) fine = fine
test_fine size g space page write None fine =
    let big = has_big_pages g.world.mmu in
    let only = searches_mark g.world.ram (root_of g.world.mmu space) space page write big fine.sound.bytes in
    let without : World = record g.world { kept = after_ptest big space page g.world.kept } in
    fine_behind size without (tested_by g.world space page write None).1 (shadow_after_drop big space page g.world.kept g.shadow)
    (drop_fine size g big space page fine) (record { mmu = refl; kept = refl }) (only.size ∙ fine.sound.count) only.bytes

tested_fine : (size : ℕ) (g : Guest) (space : Space) (at : ℕ) (write : Bool) → Fine size g
    → Fine size (record {
      world = (bus_of rule_k (Test space at write) g.world).1;
      shadow = shadow_after_test (has_big_pages g.world.mmu) (matched false g.world.mmu space (page_of at)) space (page_of at) g.world.kept g.shadow;
    })
tested_fine size g space at write fine = test_fine size g space (page_of at) write (matched false g.world.mmu space (page_of at)) fine

reset_fine : (size : ℕ) (g : Guest) → Fine size g → Fine size (record { world = (bus_of rule_k ResetDevices g.world).1; shadow = g.shadow })
reset_fine size g fine = fine_behind size g.world (bus_of rule_k ResetDevices g.world).1 g.shadow fine (record { mmu = refl; kept = refl }) fine.sound.count
    fine.sound.bytes

pub calls_keep_truth : CallsKeepTruth
calls_keep_truth size (Fetch space at) g fine =
    let c = Fetch space at in fine_access size c g fine (fetching_of space at) (calls_stand_beneath rule_k c g.world)
calls_keep_truth size (Read space p) g fine =
    let c = Read space p in fine_access size c g fine (reading_of space p.at) (calls_stand_beneath rule_k c g.world)
calls_keep_truth size (Write space p value) g fine =
    let c = Write space p value in fine_access size c g fine (writing_of space p.at) (calls_stand_beneath rule_k c g.world)
calls_keep_truth size (ReadLine space at) g fine =
    let c = ReadLine space at in fine_access size c g fine (reading_of space at) (calls_stand_beneath rule_k c g.world)
calls_keep_truth size (WriteLine space at line) g fine =
    let c = WriteLine space at line in fine_access size c g fine (writing_of space at) (calls_stand_beneath rule_k c g.world)
calls_keep_truth size (Probe space p) g fine =
    let c = Probe space p in fine_access size c g fine (writing_of space p.at) (calls_stand_beneath rule_k c g.world)
calls_keep_truth size (Get place) g fine = fine_place size (Get place) g fine (places_stand_beneath rule_k place 0 g.world).0
calls_keep_truth size (Put place value) g fine = fine_place size (Put place value) g fine (places_stand_beneath rule_k place value g.world).1
calls_keep_truth size ReadMmu g fine = unchanged_fine size g fine
calls_keep_truth size (SetMmu which value) g fine = set_fine size g which value fine
calls_keep_truth size (FlushKept what) g fine = flushed_fine size g what fine
calls_keep_truth size (Test space at write) g fine = tested_fine size g space at write fine
calls_keep_truth size ResetDevices g fine = reset_fine size g fine

pub runs_keep_truth : {A : Type 0} (size : ℕ) (m : Routine A) (g : Guest) → Fine size g → Fine size (run guest_bus m g).1
runs_keep_truth size (Return a) g fine = fine
runs_keep_truth size (Ask c) g fine = calls_keep_truth size c g fine
runs_keep_truth size (Then m f) g fine = runs_keep_truth size (f (run guest_bus m g).0) (run guest_bus m g).1 (runs_keep_truth size m g fine)
