-- The board is made ready.
use Rattle.std.proofs.Common.{◌≡◌, ◌∙◌, ℕ, ◌-◌, ◌*◌, ◌/◌, ◌%◌, ◌^◌, ◌<◌, List, bit_and, ap, arith}
use Rattle.std.proofs.lemmas.Nat.Bits.{and_high_mask}
use Rattle.mb_port.specs.declared.types.MmuReg.TheVariants.{Tc, Dtt0, Urp}
use Rattle.mb_port.specs.declared.types.Space.{Space}
use Rattle.mb_port.specs.declared.types.Space.TheVariants.{User, Super}
use Rattle.mb_model.specs.declared.outcome.RunState.TheVariants.{Running}
use Rattle.mb_model.specs.Keeping.{rule_a, nothing_kept}
use Rattle.mb_devices.specs.Devices.{DeviceState, restarted}
use Rattle.def_machine.specs.World.{World}
use Rattle.def_machine.specs.Bus.{after_set_mmu}
use Rattle.def_machine.specs.Machine.{reset_with}
use Rattle.mb_board.specs.Beside.{Beside, beside}
use Rattle.mb_board.specs.State.{BoardState, board_at_reset}
use Rattle.vm_shadow.specs.Mapped.{root_of}
use Rattle.law_mirror.specs.Ready.{native_mmu}
use Rattle.vm_guest.specs.Native.{native_world}

-- a root that stands at a multiple of 512 is kept whole
root_kept : (root : ℕ) → root % 512 ≡ 0 → root < 2 ^ 32 → bit_and root (2 ^ 32 - 2 ^ 9) ≡ root
root_kept root whole small = and_high_mask 32 9 (omega arith) root small ∙ (let e : root / 2 ^ 9 * 2 ^ 9 ≡ root = omega arith in e)

-- the three registers that are not 0
written : (root : ℕ) (devices : DeviceState) (ram : List ℕ) → root % 512 ≡ 0 → root < 2 ^ 32
    → after_set_mmu rule_a Urp root (after_set_mmu rule_a Dtt0 0x00FFA000 (after_set_mmu rule_a Tc 0x8000 (reset_with rule_a (restarted devices) ram).world))
    ≡ native_world root devices ram
unfolding reset_with
written root devices ram whole small =
    ap (λ (urp : ℕ). (let w : World = record {
      ram = ram;
      mmu = record (native_mmu root) { urp = urp };
      devices = restarted devices;
      kept = nothing_kept rule_a;
    } in w)) (root_kept root whole small)

-- a register is written, and nothing beside the world changes
pub record Sets (b after : BoardState) (w : World) : Type 0 where
  pub world : after.world ≡ w
  pub rest : beside after ≡ beside b

module _ (root : ℕ) (devices : DeviceState) (ram : List ℕ) (a b c d : BoardState)
    (reset : a ≡ board_at_reset (reset_with rule_a (restarted devices) ram))
    (one : Sets a b (after_set_mmu rule_a Tc 0x8000 a.world)) (two : Sets b c (after_set_mmu rule_a Dtt0 0x00FFA000 b.world))
    (three : Sets c d (after_set_mmu rule_a Urp root c.world)) where
  pub world_is : root % 512 ≡ 0 → root < 2 ^ 32 → d.world ≡ native_world root devices ram
  world_is whole small =
      three.world ∙ ap (after_set_mmu rule_a Urp root) (two.world ∙ ap (after_set_mmu rule_a Dtt0 0x00FFA000)
      (one.world ∙ ap (after_set_mmu rule_a Tc 0x8000) (ap (λ (s : BoardState). s.world) reset))) ∙ written root devices ram whole small

  pub state_is : d.state ≡ Running
  unfolding reset_with
  state_is = ap (λ (x : Beside). x.state) (three.rest ∙ two.rest ∙ one.rest) ∙ ap (λ (s : BoardState). s.state) reset

-- the root of a space stands at such a multiple
pub root_whole : (area : ℕ) (space : Space) → area % 65536 ≡ 0 → root_of area space % 512 ≡ 0
root_whole area User h = omega arith
root_whole area Super h = omega arith
