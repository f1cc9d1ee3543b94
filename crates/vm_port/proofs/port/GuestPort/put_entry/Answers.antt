use Rattle.std.proofs.Common.{◌∙◌, sym, refl}
use Rattle.vm_port.specs.Parts.{world_of, tables_of}
use Rattle.vm_port.proofs.Covered.{put_is}
use Rattle.vm_port.proofs.port.GuestPort.put_entry.Goals as goal

pub returns-then-not-allows-clause-shadow : goal.returns-then-not-allows-clause-shadow
returns-then-not-allows-clause-shadow g c =
    let m = c.args.self.now in
    c.put_page.ensures.shadow
    ∙ sym (put_is (world_of m) c.args.r (tables_of m) c.args.place c.in-Some.at c.in-Some.is (sym c.is_in_ram.ensures ∙ c.if-is_in_ram.true)
    (sym c.is_split.ensures ∙ c.if-not-is_split.true) (sym c.allows.ensures ∙ c.if-not-allows.true) c.page_of-then-not-allows.ensures.number
    c.page_of-then-not-allows-2.ensures.number (c.is_writable-writable.ensures ∙ rw c.page_of.ensures.number refl))
