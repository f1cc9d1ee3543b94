-- All guests, and the end of the text.
use Rattle.std.proofs.Common.{◌≡◌, ℕ, suc, ◌+◌, ◌≤◌, List, [], refl, sym, ap, ◌∙◌, arith}
use Rattle.std.specs.Prelude.{codes, map, pred, Option}
use Rattle.mb_spelling.specs.Spelling.{Reading, Read, Short, Wrong, mapped, followed, read_word, behind}
use Rattle.mb_spelling.specs.Decimals.{from_to, ranged}
use Rattle.mb_spelling.specs.Ends.{read_chain, read_finish}
use Rattle.mb_spelling.specs.Lists.{read_times}
use Rattle.vm_snapshot.specs.Guests.{Disk, Guest, guests, snapshot_said}
use Rattle.vm_snapshot.specs.Parts.{all_guests, guest_after, guest_at}
use Rattle.vm_snapshot.specs.Plans.{Plan, guest_of, plan_of}
use Rattle.vm_snapshot.specs.declared.plan.SnapGuest.{SnapGuest}
use Rattle.vm_snapshot.proofs.Chained.{chain_is, items, paired, times_over}
use Rattle.vm_snapshot.proofs.Handed.{StopsWith}
use Rattle.vm_snapshot.proofs.Listed.{one_behind, second_of}

guests_empty : (i : ℕ) → (guests.item i).read [] ≡ Short
guests_empty i = refl

mapped_twice : {A B C : Type 0} (f : B → C) (g : A → B) (r : Reading A) → mapped (λ a. f (g a)) r ≡ mapped f (mapped g r)
mapped_twice f g (Read a rest) = refl
mapped_twice f g Short = refl
mapped_twice f g (Wrong rest) = refl

finish_mapped : {A B : Type 0} (f : A → B) (a : A) (r : Reading (Unit {0}))
    → mapped f (mapped (λ (v : A × Unit {0}). v.0) (mapped (λ b. (a, b)) r)) ≡ mapped (λ (v : B × Unit {0}). v.0) (mapped (λ b. (f a, b)) r)
finish_mapped f a (Read v rest) = refl
finish_mapped f a Short = refl
finish_mapped f a (Wrong rest) = refl

ended_mapped : {A B : Type 0} (f : A → B) (r : Reading A)
    → mapped f (mapped (λ (v : A × Unit {0}). v.0) (followed r (λ a rest. read_finish rest)))
    ≡ mapped (λ (v : B × Unit {0}). v.0) (followed (mapped f r) (λ b rest. read_finish rest))
ended_mapped f (Read a rest) = finish_mapped f a (read_finish rest)
ended_mapped f Short = refl
ended_mapped f (Wrong rest) = refl

-- the guests and the end of the text
abbrev pub to_the_end : Reading (List SnapGuest) → Reading (List SnapGuest)
to_the_end r = mapped (λ (v : List SnapGuest × Unit {0}). v.0) (followed r (λ v rest. read_finish rest))

abbrev pub Paired : Type 0
Paired = Guest × Option Disk

counted_is : (text : List ℕ)
    → mapped (λ (v : Unit {0} × List Paired). map guest_of (v.1)) (all_guests.read text)
    ≡ mapped (map guest_of) (mapped (λ (v : ℕ × List Paired). v.1)
    (followed ((behind (codes "guests ") (ranged (from_to 1 16) 10)).read text) (λ n rest. read_chain guests (pred n) 1 rest)))
counted_is text =
    mapped_twice (map guest_of) (λ (v : Unit {0} × List Paired). v.1) (all_guests.read text)
    ∙ ap (mapped (map guest_of)) (one_behind (read_word (codes "guests ") text) (ranged (from_to 1 16) 10).read (λ n rest. read_chain guests (pred n) 1 rest))

pub counted_then : (text left : List ℕ) (n : ℕ) → 1 ≤ n → (behind (codes "guests ") (ranged (from_to 1 16) 10)).read text ≡ Read n left
    → mapped (λ v. map guest_of (v.1)) (all_guests.read text) ≡ to_the_end (read_times guest_at guest_after n 1 left)
counted_then text left n some e =
    let one : suc (pred n) ≡ n = omega arith in
    counted_is text
    ∙ (ap (λ (x : Reading ℕ). mapped (map guest_of) (mapped (λ (v : ℕ × List Paired). v.1) (followed x (λ n rest. read_chain guests (pred n) 1 rest)))) e
    ∙ (ap (mapped (map guest_of)) (second_of n (read_chain guests (pred n) 1 left) ∙ chain_is guests guests_empty (pred n) 1 left)
    ∙ (ended_mapped (map guest_of) (items guests guests_empty (suc (pred n)) 1 left)
    ∙ (ap to_the_end (sym (times_over (paired guests guests_empty) guest_of (λ (i : ℕ). i + 1) (λ g. Unit {0}) (λ g. []) (suc (pred n)) 1 left))
    ∙ ap (λ (k : ℕ). to_the_end (read_times guest_at guest_after k 1 left)) one))))

pub counted_stops : (text : List ℕ)
    → StopsWith ((behind (codes "guests ") (ranged (from_to 1 16) 10)).read text) (mapped (λ v. map guest_of (v.1)) (all_guests.read text))
counted_stops text =
    let over = λ (x : Reading ℕ). mapped (map guest_of) (mapped (λ (v : ℕ × List Paired). v.1) (followed x (λ n rest. read_chain guests (pred n) 1 rest))) in
    record { short = λ e. counted_is text ∙ ap over e; wrong = λ rest e. counted_is text ∙ ap over e }

pub ended_stops : (r : Reading (List SnapGuest)) → StopsWith r (to_the_end r)
ended_stops r = record { short = λ e. ap to_the_end e; wrong = λ rest e. ap to_the_end e }

pub finish_stops : (r : Reading (List SnapGuest)) (list : List SnapGuest) (left : List ℕ) → r ≡ Read list left → StopsWith (read_finish left) (to_the_end r)
finish_stops r list left e = record {
  short = λ f. ap to_the_end e ∙ ap (λ (x : Reading (Unit {0})). mapped (λ (v : List SnapGuest × Unit {0}). v.0) (mapped (λ b. (list, b)) x)) f;
  wrong = λ rest f. ap to_the_end e ∙ ap (λ (x : Reading (Unit {0})). mapped (λ (v : List SnapGuest × Unit {0}). v.0) (mapped (λ b. (list, b)) x)) f;
}

pub finish_then : (r : Reading (List SnapGuest)) (list : List SnapGuest) (left : List ℕ) → r ≡ Read list left → read_finish left ≡ Read tt left
    → to_the_end r ≡ Read list left
finish_then r list left e f = ap to_the_end e ∙ ap (λ (x : Reading (Unit {0})). mapped (λ (v : List SnapGuest × Unit {0}). v.0) (mapped (λ b. (list, b)) x)) f

-- ---- the plan

abbrev pub planned : (board slice : ℕ) → List SnapGuest → Plan
planned board slice list = record { board = board; slice = slice; guests = list }

pub plan_then : (board slice : ℕ) (r : Reading (Unit {0} × List Paired))
    → mapped plan_of (mapped snapshot_said (mapped (λ v. (board, v)) (mapped (λ v. (slice, v)) r)))
    ≡ mapped (planned board slice) (mapped (λ v. map guest_of (v.1)) r)
plan_then board slice (Read v rest) = refl
plan_then board slice Short = refl
plan_then board slice (Wrong rest) = refl

pub plan_stops : (board slice : ℕ) (r : Reading (Unit {0} × List Paired))
    → StopsWith (mapped (λ v. map guest_of (v.1)) r) (mapped plan_of (mapped snapshot_said (mapped (λ v. (board, v)) (mapped (λ v. (slice, v)) r))))
plan_stops board slice r = record {
  short = λ e. plan_then board slice r ∙ ap (mapped (planned board slice)) e;
  wrong = λ rest e. plan_then board slice r ∙ ap (mapped (planned board slice)) e;
}
