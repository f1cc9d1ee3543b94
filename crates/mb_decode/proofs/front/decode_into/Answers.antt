use Rattle.std.proofs.Common.{◌∷◌, arith}
use Rattle.mb_instr.proofs.Words.{AreWords-cons}
use Rattle.mb_decode.specs.Decodes.{told}
use Rattle.mb_decode.proofs.Table.{words_from_type, decoded, length_of, unfinished_length, valid_of}
use Rattle.mb_decode.proofs.front.decode_into.Goals as goal

pub returns : goal.returns
returns c =
    let rest = c.args.rest.now in
    let words = c.args.first ∷ rest in
    let told-it = told c.put_from.result c.put_from.new.instruction in
    let decodes = decoded words told-it c.put_from.ensures
    (AreWords-cons c.args.first rest (omega arith) (words_from_type rest (λ i. omega (arith, c.type_inv.rest i)))) in
    record {
      means = c.put_from.ensures;
      decodes = decodes;
      length = length_of words told-it decodes;
      unfinished = unfinished_length words told-it decodes;
      valid = valid_of words told-it decodes;
    }
