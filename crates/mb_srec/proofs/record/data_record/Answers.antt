use Rattle.std.proofs.Common.{◌≡◌, ◌≤◌, ℕ, ◌+◌, ◌-◌, List, length, Result, Ok, refl, sym, ap, ◌∙◌, arith}
use Rattle.mb_srec.specs.declared.fault.RecordWhy.{RecordWhy}
use Rattle.mb_srec.specs.Kinds.{address_len}
use Rattle.mb_srec.specs.Image.{content_of}
use Rattle.mb_srec.specs.Records.{Record, Data, address_of, data_of}
use Rattle.mb_srec.proofs.Fields.{between, long_enough}
use Rattle.mb_srec.proofs.record.data_record.Goals as goal

said_data : ℕ × List ℕ → Result Record RecordWhy
said_data content = Ok (Data content.0 content.1)

pub returns : goal.returns
unfolding said_data
returns c =
    let kind = c.args.kind in
    let bytes = c.args.bytes.now in
    let long : address_len kind + 2 ≤ length bytes = long_enough kind bytes c.requires in
    let placed : c.in_ok-from_slice.field-0.items ≡ data_of kind bytes =
    c.in_ok-from_slice.ensures.items ∙ (rw c.address_len.ensures (sym (between (1 + address_len kind) (length bytes - 1) bytes (omega arith)))) in
    let whole : content_of c.new-chunk.result ≡ (address_of kind bytes, data_of kind bytes) =
    c.new-chunk.ensures ∙ rw (c.address_of.ensures, placed) refl in
    ap said_data (sym whole)
