-- A further guest on the board of others.
use Rattle.std.proofs.Common.{◌≡◌, ℕ, List, get_or, slice_get, Some, All, subst}
use Rattle.std.proofs.lemmas.List.Elements.{All-push}
use Rattle.std.proofs.lemmas.List.Quantifiers.{all_pairs_push}
use Rattle.std.proofs.lemmas.Option.{get_or_from_slice_get, slice_get-get_or, slice_get_within}
use Rattle.def_guests.specs.Seats.{Seat, end_of, IsSeated}
use Rattle.def_guests.specs.Stages.{AllSeated, LieApart}
use Rattle.def_guests.proofs.Independent.{other_way, seated_at}
use Rattle.def_guests.proofs.Seated.{Alone, alone}
use Rattle.vm_guest.specs.Memory.{OnlyBetween}
use Rattle.vm_guest.specs.Joining.{GuestsJoin}
use Rattle.vm_guest.proofs.Seated.{only_within}

left_alone : (gs : List Seat) (g : Seat) (x y : List ℕ) → AllSeated gs x → IsSeated g y → OnlyBetween g.base (end_of g) x y
    → All (λ (h : Seat). LieApart h g) gs → (i : ℕ) (h : Seat) → slice_get gs i ≡ Some h → Alone h x y
left_alone gs g x y all seated within apart i h here =
    let own = subst (λ (k : Seat). LieApart k g) (get_or_from_slice_get gs i h h here) (apart i h (slice_get_within gs i h here)) in
    alone g h x y (only_within g x y seated.behind within) (other_way h g own) seated.behind (seated_at gs x i h all here)

pub guests_join : GuestsJoin
guests_join gs g x y all seated within apart =
    let others = left_alone gs g x y all seated within apart in (
      record {
        seated = All-push (λ (h : Seat). IsSeated h y) gs g (λ i d less. (others i (get_or gs i d) (slice_get-get_or gs i d less)).seated) seated;
        apart = all_pairs_push LieApart gs g all.apart apart;
      },
      λ i h here. (others i h here).guest,
    )
