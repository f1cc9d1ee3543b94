-- Rows of memory, and what is kept, one behind the other.
use Rattle.std.proofs.Common.{◌≡◌, ◌∙◌, ℕ, suc, ◌+◌, ◌-◌, ◌<◌, ◌≤◌, List, [], ◌++◌, length, take, drop, refl, ap, sym, subst, append_assoc, arith}
use Rattle.std.specs.Prelude.{Option, codes}
use Rattle.std.proofs.lemmas.Bool.{le-leb, lt-leb}
use Rattle.std.proofs.lemmas.List.{append-nil}
use Rattle.mb_report.specs.declared.buffered.Buffered.{Buffered}
use Rattle.mb_report.specs.Buffered.{Buffers}
use Rattle.mb_report.specs.Digits.{hex8}
use Rattle.mb_report.specs.Text.{row_line, word_line}
use Rattle.mb_report.proofs.BufferLemmas.{buffers_nothing, buffers_then}
use Rattle.vm_debug.specs.Debugs.{rows_text}

no_rows : (ram : List ℕ) (at : ℕ) → rows_text ram at 0 ≡ []
unfolding rows_text
no_rows ram at = refl

row_outside : (ram : List ℕ) (at count : ℕ) → length ram < at + 16 → rows_text ram at (suc count) ≡ word_line (hex8 at) (codes "outside")
unfolding rows_text
row_outside ram at count h = rw (lt-leb (at + 16) (length ram) h) refl

row_inside : (ram : List ℕ) (at count : ℕ) → at + 16 ≤ length ram
    → rows_text ram at (suc count) ≡ row_line at (take 16 (drop at ram)) ++ rows_text ram (at + 16) count
unfolding rows_text
row_inside ram at count h = rw (le-leb (at + 16) (length ram) h) refl

-- Some rows were written, and those that are left make them all.
pub record RowsWritten (ram : List ℕ) (at count place row : ℕ) (from to : Buffered) (o p : Option (List ℕ)) (f g : ℕ) : Type 0 where
  pub front : List ℕ
  pub written : Buffers from to o p f g front
  pub whole : front ++ rows_text ram place (count - row) ≡ rows_text ram at count

pub rows_first : (ram : List ℕ) (at count : ℕ) (a : Buffered) (o : Option (List ℕ)) (f : ℕ) → RowsWritten ram at count at 0 a a o o f f
rows_first ram at count a o f = record {
  front = [];
  written = buffers_nothing a o f;
  whole = ap (rows_text ram at) (let e : count - 0 ≡ count = omega arith in e);
}

left_one : (count row : ℕ) → row < count → count - row ≡ suc (count - (row + 1))
left_one count row h = omega arith

pub rows_next : {ram : List ℕ} {at count place row : ℕ} {a b c : Buffered} {o p q : Option (List ℕ)} {f g h : ℕ}
    → row < count → place + 16 ≤ length ram → RowsWritten ram at count place row a b o p f g
    → Buffers b c p q g h (row_line place (take 16 (drop place ram)))
    → RowsWritten ram at count (place + 16) (row + 1) a c o q f h
rows_next {ram} {at} {count} {place} {row} less inside before written =
    let line = row_line place (take 16 (drop place ram)) in record {
      front = before.front ++ line;
      written = buffers_then before.written written;
      whole = append_assoc before.front line (rows_text ram (place + 16) (count - (row + 1)))
          ∙ ap (λ (x : List ℕ). before.front ++ x) (sym (row_inside ram place (count - (row + 1)) inside)
          ∙ ap (rows_text ram place) (sym (left_one count row less)))
          ∙ before.whole;
    }

pub rows_out : {ram : List ℕ} {at count place row : ℕ} {a b c : Buffered} {o p q : Option (List ℕ)} {f g h : ℕ}
    → row < count → length ram < place + 16 → RowsWritten ram at count place row a b o p f g
    → Buffers b c p q g h (word_line (hex8 place) (codes "outside")) → Buffers a c o q f h (rows_text ram at count)
rows_out {ram} {at} {count} {place} {row} {a} {b} {c} {o} {p} {q} {f} {g} {h} less outside before written =
    subst (Buffers a c o q f h)
    (ap (λ (x : List ℕ). before.front ++ x) (sym (row_outside ram place (count - (row + 1)) outside)
    ∙ ap (rows_text ram place) (sym (left_one count row less)))
    ∙ before.whole)
    (buffers_then before.written written)

pub rows_done : {ram : List ℕ} {at count place row : ℕ} {a b : Buffered} {o p : Option (List ℕ)} {f g : ℕ}
    → count ≤ row → RowsWritten ram at count place row a b o p f g → Buffers a b o p f g (rows_text ram at count)
rows_done {ram} {at} {count} {place} {row} {a} {b} {o} {p} {f} {g} all before =
    subst (Buffers a b o p f g)
    (sym (append-nil before.front)
    ∙ ap (λ (x : List ℕ). before.front ++ x) (sym (no_rows ram place) ∙ ap (rows_text ram place) (let e : 0 ≡ count - row = omega arith in e))
    ∙ before.whole)
    before.written
