-- Printing one text after another.
use Rattle.std.proofs.lemmas.List.{take-append-drop}
use Rattle.std.proofs.Common.{◌≡◌, ◌∙◌, ℕ, ◌++◌, List, ap, sym, refl, append_assoc, take, drop}
use Rattle.std.specs.Prelude.{Option, Some, None, option_map, Result, Ok, Err, IsErr}
use Rattle.mb_outside.specs.Sink.{Grows}
use Rattle.mb_outside.specs.Prints.{Printed, PrintedPart, Prints, PrintsMore}

mapped_twice : (a : Option (List ℕ)) (x y : List ℕ)
    → option_map (λ bs. bs ++ y) (option_map (λ bs. bs ++ x) a) ≡ option_map (λ bs. bs ++ (x ++ y)) a
mapped_twice None x y = refl
mapped_twice (Some bs) x y = ap (λ (ys : List ℕ). Some ys) (append_assoc bs x y)

pub grows_then : (a b c : Option (List ℕ)) (x y : List ℕ) → Grows a b x → Grows b c y → Grows a c (x ++ y)
grows_then a b c x y p q = q ∙ ap (option_map (λ bs. bs ++ y)) p ∙ mapped_twice a x y

pub printed_then : {a b c : Option (List ℕ)} {f g h : ℕ} {x y : List ℕ}
    → Printed a b f g x → Printed b c g h y → Printed a c f h (x ++ y)
printed_then {a} {b} {c} {f} {g} {h} {x} {y} p q =
    record { same = q.same ∙ p.same; grows = grows_then a b c x y p.grows q.grows }

pub part_then : {a b c : Option (List ℕ)} {f g h : ℕ} {x y : List ℕ}
    → Printed a b f g x → PrintedPart b c g h y → PrintedPart a c f h (x ++ y)
part_then {a} {b} {c} {f} {g} {h} {x} {y} p q = record {
  rose = rw p.same at q.rose;
  part = x ++ q.part;
  rest = q.rest;
  whole = ap (λ (ys : List ℕ). x ++ ys) q.whole ∙ sym (append_assoc x q.part q.rest);
  grows = grows_then a b c x q.part p.grows q.grows;
}

pub part_more : {a b : Option (List ℕ)} {f g : ℕ} {x : List ℕ} (y : List ℕ)
    → PrintedPart a b f g x → PrintedPart a b f g (x ++ y)
part_more {a} {b} {f} {g} {x} y p = record {
  rose = p.rose;
  part = p.part;
  rest = p.rest ++ y;
  whole = ap (λ (ys : List ℕ). ys ++ y) p.whole ∙ append_assoc p.part p.rest y;
  grows = p.grows;
}

part_same : {a b c : Option (List ℕ)} {f g h : ℕ} {x : List ℕ} (y : List ℕ)
    → PrintedPart a b f g x → c ≡ b → h ≡ g → PrintedPart a c f h (x ++ y)
part_same {a} {b} {c} {f} {g} {h} {x} y p e k =
    rw (e, k) (part_more y p)

err_of : {U F : Type 0} (s : Result U F) (a b : Option (List ℕ)) (f g : ℕ) (x : List ℕ)
    → IsErr s → PrintedPart a b f g x → Prints a b f g x s
err_of (Ok u) a b f g x bad p = absurd (cc)
err_of (Err e) a b f g x bad p = p

pub prints_more : {T E U F : Type 0} (r : Result T E) (s : Result U F) (a b c : Option (List ℕ)) (f g h : ℕ) (x y : List ℕ)
    → Prints a b f g x r → PrintsMore r b c g h y s → Prints a c f h (x ++ y) s
prints_more (Ok t) (Ok u) a b c f g h x y p q = printed_then p q
prints_more (Ok t) (Err e) a b c f g h x y p q = part_then p q
prints_more (Err d) s a b c f g h x y p q = err_of s a c f h (x ++ y) q.2 (part_same y p q.0 q.1)

take_drop : (n : ℕ) (xs : List ℕ) → take n xs ++ drop n xs ≡ xs
take_drop n xs = take-append-drop n xs

pub regrouped : (part xs : List ℕ) (n : ℕ) (bytes after : List ℕ) → bytes ≡ part ++ xs → after ≡ drop n xs
    → bytes ≡ (part ++ take n xs) ++ after
regrouped part xs n bytes after e f =
    rw f (e ∙ ap (λ (ys : List ℕ). part ++ ys) (sym (take_drop n xs)) ∙ sym (append_assoc part (take n xs) (drop n xs)))

pub more_more : {T E U F V G : Type 0} (d : Result T E) (r : Result U F) (s : Result V G) (a b c : Option (List ℕ)) (f g h : ℕ) (x y : List ℕ)
    → PrintsMore d a b f g x r → PrintsMore r b c g h y s → PrintsMore d a c f h (x ++ y) s
more_more (Ok t) r s a b c f g h x y p q = prints_more r s a b c f g h x y p q
more_more (Err e) (Ok u) s a b c f g h x y p q = absurd (cc (p.2))
more_more (Err e) (Err u) s a b c f g h x y p q = (q.0 ∙ p.0, q.1 ∙ p.1, q.2)
