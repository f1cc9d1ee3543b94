-- Adding one text after another.
use Rattle.std.proofs.Common.{◌≡◌, ◌∙◌, ℕ, ◌++◌, List, [], ap, sym, refl, append_assoc}
use Rattle.std.proofs.lemmas.List.{append-nil}
use Rattle.std.specs.Prelude.{Option, None, Some, Result, Ok, Err, IsOk}
use Rattle.mb_outside.specs.Sink.{Grows}
use Rattle.mb_outside.specs.Prints.{Prints, PrintsMore}
use Rattle.mb_outside.proofs.PrintLemmas.{prints_more, more_more}
use Rattle.mb_report.specs.declared.buffered.Buffered.{Buffered}
use Rattle.mb_report.specs.Buffered.{Buffers}

pub grows_nothing : (o : Option (List ℕ)) → Grows o o []
grows_nothing None = refl
grows_nothing (Some bytes) = ap (λ (xs : List ℕ). Some xs) (sym (append-nil bytes))

more_nothing : {T E : Type 0} (r : Result T E) (o : Option (List ℕ)) (f : ℕ) → PrintsMore r o o f f [] r
more_nothing (Ok t) o f = record { same = refl; grows = grows_nothing o }
more_nothing (Err e) o f = (refl, refl, refl)

pub buffers_nothing : (a : Buffered) (o : Option (List ℕ)) (f : ℕ) → Buffers a a o o f f []
buffers_nothing a o f = record {
  put = [];
  whole = append-nil a.held.items;
  prints = more_nothing a.so_far o f;
}

pub buffers_then : {a b c : Buffered} {o p q : Option (List ℕ)} {f g h : ℕ} {x y : List ℕ}
    → Buffers a b o p f g x → Buffers b c p q g h y → Buffers a c o q f h (x ++ y)
buffers_then {a} {b} {c} {o} {p} {q} {f} {g} {h} {x} {y} s t = record {
  put = s.put ++ t.put;
  whole =
      sym (append_assoc a.held.items x y)
      ∙ ap (λ (xs : List ℕ). xs ++ y) s.whole
      ∙ append_assoc s.put b.held.items y
      ∙ ap (λ (xs : List ℕ). s.put ++ xs) t.whole
      ∙ sym (append_assoc s.put t.put c.held.items);
  prints = more_more a.so_far b.so_far c.so_far o p q f g h s.put t.put s.prints t.prints;
}

-- What no block has room for is put behind what was held.
pub put_at_once : {a b c : Buffered} {o p q : Option (List ℕ)} {f g h : ℕ} {x : List ℕ}
    → Buffers a b o p f g [] → b.held.items ≡ [] → c.held.items ≡ [] → PrintsMore b.so_far p q g h x c.so_far
    → Buffers a c o q f h x
put_at_once {a} {b} {c} {o} {p} {q} {f} {g} {h} {x} s before now prints =
    let direct : Buffers b c p q g h x = record { put = x; whole = rw (before, now) (sym (append-nil x)); prints = prints } in
    buffers_then s direct

prints_of : {T E U F : Type 0} (r : Result T E) (s : Result U F) (o p : Option (List ℕ)) (f g : ℕ) (x : List ℕ)
    → IsOk r → PrintsMore r o p f g x s → Prints o p f g x s
prints_of (Ok t) s o p f g x ok prints = prints
prints_of (Err e) s o p f g x ok prints = absurd (cc)

-- A text that was added to an empty one is printed once the rest is put.
pub buffers_printed : {U F : Type 0} (a b : Buffered) (r : Result U F) (o p q : Option (List ℕ)) (f g h : ℕ) (x : List ℕ)
    → a.held.items ≡ [] → IsOk a.so_far → Buffers a b o p f g x → PrintsMore b.so_far p q g h b.held.items r
    → Prints o q f h x r
buffers_printed a b r o p q f g h x empty ok s rest =
    let whole : x ≡ s.put ++ b.held.items = ap (λ (xs : List ℕ). xs ++ x) (sym empty) ∙ s.whole in
    rw whole (prints_more b.so_far r o p q f g h s.put b.held.items (prints_of a.so_far b.so_far o p f g s.put ok s.prints) rest)
