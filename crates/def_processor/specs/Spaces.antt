-- What goes by the function codes SFC and DFC: MOVES, PFLUSH and PTEST.
use Rattle.std.specs.Prelude.{ℕ, ◌-◌, ◌/◌, ◌%◌, ◌^◌, ◌==◌, ◌&&◌, Bool, true, false, not, nat_lt, if◌then◌else◌}
use Rattle.mb_port.specs.Routine.{Routine, Return, Then, ◌>>=◌, choose, flush, mmu, test, set_mmu}
use Rattle.mb_port.specs.declared.types.Space.{Space}
use Rattle.mb_port.specs.declared.types.Space.TheVariants.{User, Super}
use Rattle.mb_port.specs.declared.types.Flush.{Flush}
use Rattle.mb_port.specs.declared.types.Flush.TheVariants as dropped
use Rattle.mb_port.specs.declared.types.MmuReg.TheVariants.{Mmusr}
use Rattle.mb_instr.specs.declared.size.Size.{Size}
use Rattle.mb_instr.specs.declared.operand.Ea.{Ea}
use Rattle.mb_instr.specs.declared.kinds.FlushKind.{FlushKind}
use Rattle.mb_instr.specs.declared.kinds.FlushKind.TheVariants as kind
use Rattle.mb_instr.specs.declared.registers.Plain.{Plain}
use Rattle.mb_instr.specs.Sizes.{bytes_of, sign_extended}
use Rattle.mb_instr.specs.Registers.{plain_of, register_of, data_register, with_data_register, address_register}
use Rattle.mb_instr.specs.Registers.{with_address_register}
use Rattle.mb_ea.specs.declared.addresses.Target.{Target}
use Rattle.mb_ea.specs.Reading.{read_operand_of}
use Rattle.mb_ea.specs.Resolve.{resolve_of}
use Rattle.mb_model.specs.declared.processor.Cpu.{Cpu}
use Rattle.mb_model.specs.Pages.{page_of, has_big_pages, other_half}
use Rattle.def_instructions.specs.Operands.{with_low, place_of, finish_with_of}
use Rattle.def_instructions.specs.Ends.{reading}
use Rattle.def_processor.specs.SystemEnds.{SystemRowed, completed, with_registers, finish_row_of}
use Rattle.mb_instr.specs.FurtherWords.{register_word}

-- the space of a function code, by its bit 2
abbrev pub function_space : ℕ → Space
function_space code = if code / 2 ^ 2 % 2 == 1 then Super else User

-- ---- MOVES

-- of a data register the low bytes become the value; an address register becomes all of it, with its sign
abbrev pub load_register_of : Size → ℕ → ℕ → Plain → Plain
load_register_of size n value p =
    if nat_lt n 8 then with_data_register p n (with_low size (data_register p n) value)
    else with_address_register p (n - 8) (sign_extended size value)

-- to memory, in DFC's space. An address register that has stepped is stored with its new value.
abbrev pub move_out_of : Size → Target → ℕ → Plain → Cpu → Routine SystemRowed
move_out_of size target n p cpu =
    finish_row_of cpu (finish_with_of target size (register_of p n) (function_space cpu.dfc) p)

-- from memory, in SFC's space. An address register that has stepped becomes what was read.
abbrev pub move_in_of : Size → Target → ℕ → Plain → Cpu → Routine SystemRowed
move_in_of size target n p cpu = do
  value ← reading (read_operand_of (function_space cpu.sfc) (place_of target) (bytes_of size))
  Return (completed (with_registers (load_register_of size n value p) cpu))

-- MOVES: a memory indirection of its address reads in supervisor space, whatever the function codes say. Only the
-- operand itself goes by SFC or DFC.
abbrev pub moves_of : Size → Ea → ℕ → ℕ → Cpu → Routine SystemRowed
moves_of size ea word word_at cpu = do
  to ← reading (resolve_of ea size word_at Super (plain_of cpu.regs))
  choose (register_word word).is_store (move_out_of size to.target (register_word word).register to.plain cpu)
      (move_in_of size to.target (register_word word).register to.plain cpu)

-- ---- pages

-- what PFLUSH drops: of a page of 4 KiB in DFC's space, or of all; with the global translations or without them
abbrev pub flushed_by : FlushKind → ℕ → Cpu → Flush
flushed_by kind.LocalPage page cpu = dropped.PageLocal (function_space cpu.dfc) page
flushed_by kind.Page page cpu = dropped.Page (function_space cpu.dfc) page
flushed_by kind.AllLocal page cpu = dropped.AllLocal
flushed_by kind.All page cpu = dropped.All

abbrev pub is_of_a_page : FlushKind → Bool
is_of_a_page kind.LocalPage = true
is_of_a_page kind.Page = true
is_of_a_page kind.AllLocal = false
is_of_a_page kind.All = false

-- of the other half of a page of 8 KiB too, where the tables are of such pages
abbrev pub flush_beside_of : FlushKind → ℕ → Cpu → Routine Cpu
flush_beside_of kind page cpu =
    Then mmu (λ registers.
    let both = has_big_pages registers && is_of_a_page kind in
    Then (choose both (flush (flushed_by kind (other_half page) cpu)) (Return tt)) (λ done. Return cpu))

-- PFLUSH
abbrev pub pflush_of : FlushKind → ℕ → Cpu → Routine Cpu
pflush_of kind n cpu =
    let page = page_of (address_register (plain_of cpu.regs) n) in
    Then (flush (flushed_by kind page cpu)) (λ done. flush_beside_of kind page cpu)

-- PTEST: the page is tested in DFC's space, for a read or a write, and the answer becomes MMUSR
abbrev pub ptest_of : Bool → ℕ → Cpu → Routine Cpu
ptest_of is_read n cpu =
    Then (test (function_space cpu.dfc) (address_register (plain_of cpu.regs) n) (not is_read))
    (λ status. Then (set_mmu Mmusr status) (λ done. Return cpu))
