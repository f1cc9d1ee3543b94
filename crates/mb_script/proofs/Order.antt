-- Steps in order.
use Rattle.std.proofs.Common.{◌≡◌, ℕ, ◌≤◌, List, [], ◌∷◌, ◌++◌, sym, subst, append_assoc, append-nil, arith}
use Rattle.std.proofs.lemmas.List.Elements.{All-push}
use Rattle.std.proofs.lemmas.List.Quantifiers.{all_pairs_push}
use Rattle.mb_script.specs.declared.entry.Entry.{Entry}
use Rattle.mb_script.specs.declared.input.Input.{Input}
use Rattle.mb_script.specs.Scripts.{at_step, entry_at}
use Rattle.mb_script.specs.Script.{Entries, IsInOrder}

-- one more input at the last step
pushed : (last : ℕ) (one : Input) (entries : Entries) → 1 ≤ last → IsInOrder last entries → IsInOrder last (entries ++ entry_at last one ∷ [])
pushed last one entries from h = record {
  from_one = All-push (λ (entry : Entry). 1 ≤ entry.step) entries (entry_at last one) h.from_one from;
  in_order = all_pairs_push (λ (earlier later : Entry). earlier.step ≤ later.step) entries (entry_at last one) h.in_order (λ k d lt. h.up_to k d lt);
  up_to = All-push (λ (entry : Entry). entry.step ≤ last) entries (entry_at last one) h.up_to (omega arith);
}

-- more inputs at the last step
all_pushed : (last : ℕ) (inputs : List Input) (entries : Entries) → 1 ≤ last → IsInOrder last entries
    → IsInOrder last (entries ++ at_step last inputs)
all_pushed last [] entries from h = subst (IsInOrder last) (sym (append-nil entries)) h
all_pushed last (one ∷ inputs) entries from h =
    subst (IsInOrder last) (append_assoc entries (entry_at last one ∷ []) (at_step last inputs))
    (all_pushed last inputs (entries ++ entry_at last one ∷ []) from (pushed last one entries from h))

pub in_order_after : (last : ℕ) (inputs : List Input) (entries new : Entries) → 1 ≤ last → IsInOrder last entries
    → new ≡ entries ++ at_step last inputs → IsInOrder last new
in_order_after last inputs entries new from h is = subst (IsInOrder last) (sym is) (all_pushed last inputs entries from h)
