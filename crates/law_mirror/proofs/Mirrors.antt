-- An access on the board and at the guest.
use Rattle.std.proofs.Common.{◌≡◌, ℕ, ◌+◌, ◌*◌, ◌≤◌, ◌<◌, ◌/◌, ◌%◌, ◌^◌, Bool, true, false, cond, List, length, take, refl, ap, sym, ◌∙◌, subst, arith}
use Rattle.std.proofs.Common.{Option, Some, None}
use Rattle.std.proofs.lemmas.Bool.Decides.{nat_tests}
use Rattle.byteorder.specs.Endian.{big_bytes}
use Rattle.byteorder.specs.Numbers.{length-bytes_high_first}
use Rattle.mb_port.specs.declared.types.Space.TheVariants.{User}
use Rattle.mb_model.specs.Keeping.{rule_a, rule_k}
use Rattle.mb_walk.specs.Memory.{number_at, with_number, AreBytes}
use Rattle.mb_walk.proofs.MemoryLemmas.{length-with_number}
use Rattle.def_machine.specs.World.{World}
use Rattle.def_machine.specs.Places.{in_ram}
use Rattle.mb_model.specs.Pages.{page_of}
use Rattle.def_machine.specs.Access.{translated}
use Rattle.def_machine.proofs.Bytes.{bytes-with_number}
use Rattle.mb_walk.proofs.Parts.{bytes-part, length-part, number-part, part-over, drop-over}
use Rattle.vm_shadow.specs.Shadows.{Shadowed}
use Rattle.vm_shadow.specs.declared.area.TheConstants.{AREA_BYTES}
use Rattle.vm_shadow.proofs.Alone.{tables_are_of_the_area}
use Rattle.def_guests.specs.Guests.{Guest, ref, lets, allows, placed_at}
use Rattle.law_mirror.specs.Related.{Site, Related, mapping}
use Rattle.def_guests.specs.Seats.{board_entry}
use Rattle.law_mirror.proofs.Quiet.{wanted, Quiet, Translates}
use Rattle.law_held.specs.Sound.{Sound}
use Rattle.law_mirror.proofs.Translated.{board_translates}
use Rattle.law_held.proofs.Allowed.{guest_access, wrote_guest}

-- a quiet change of the board keeps the relation
pub related_after : (x : Site) (b after : World) (g : Guest) → Related x b g → Quiet x b after → Related x after g
related_after x b after g r q = subst (λ (w : World). Related x w g) (sym q.same) (record {
  bytes = r.bytes;
  maps = r.maps;
  under = r.under;
  whole = r.whole;
  ram = r.ram;
  root = r.root;
  small = r.small;
  shadow = r.shadow;
  kept = q.kept;
  no_match = r.no_match;
  truthful = r.truthful;
})

-- what the board's tables map is the guest's entry, moved
pub entry_moved : (x : Site) (b : World) (g : Guest) (page : ℕ) → Related x b g → mapping x b.ram page ≡ board_entry x.base (g.shadow.entries x.space page)
entry_moved x b g page r = ap (λ (s : Shadowed). s.entries x.space page) r.shadow

-- ---- an access

pub access : (x : Site) (b : World) (g : Guest) (code : Bool) (at : ℕ) (write : Bool) → Related x b g → at < 2 ^ 32
    → Translates x b (wanted (board_entry x.base (g.shadow.entries x.space (page_of at))) at write) (translated rule_a (ref code User at write) b)
access x b g code at write r l =
    subst (λ (o : Option (ℕ × Bool)). Translates x b (wanted o at write) (translated rule_a (ref code User at write) b))
    (entry_moved x b g (page_of at) r) (board_translates x rule_a b g code at write r l)

-- what an allowed access comes to: its place on the board is the guest's, moved
pub record Allowed (x : Site) (b : World) (g : Guest) (code : Bool) (at : ℕ) (write : Bool) : Type 0 where
  pub place : ℕ
  pub inside : place / 4096 * 4096 + 4096 ≤ x.size
  pub offset : place % 4096 ≡ at % 4096
  pub board : (translated rule_a (ref code User at write) b).0 ≡ Some (x.base + place)
  pub after : Related x (translated rule_a (ref code User at write) b).1 g
  pub guest : translated rule_k (ref code x.space at write) g.world ≡ (Some place, g.world)

place_moved : (base frame at : ℕ) → base % 4096 ≡ 0 → 4096 * (base / 4096 + frame) + at % 4096 ≡ base + (4096 * frame + at % 4096)
place_moved base frame at h = omega arith

allowed_by : (x : Site) (b : World) (g : Guest) (code : Bool) (at : ℕ) (write : Bool) → Related x b g → at < 2 ^ 32 → (write ≡ true → code ≡ false)
    → (o : Option (ℕ × Bool)) → g.shadow.entries x.space (page_of at) ≡ o → lets o write ≡ true → Allowed x b g code at write
allowed_by x b g code at write r l side None s h = absurd (let z : ⊥ = cc in z)
allowed_by x b g code at write r l side (Some (frame, writable)) s h =
    let a = access x b g code at write r l in
    let whole : x.base % 4096 ≡ 0 = r.whole in
    let small : 4096 * frame + 4096 ≤ x.size = r.truthful.inside x.space (page_of at) frame writable s in
    record {
      place = placed_at frame at;
      inside = omega arith;
      offset = omega arith;
      board = a.answer ∙ ap (λ (o : Option (ℕ × Bool)). wanted (board_entry x.base o) at write) s
          ∙ ap (λ (v : Bool). cond v (Some (placed_at (x.base / 4096 + frame) at)) None) h
          ∙ ap (λ (p : ℕ). Some p) (place_moved x.base frame at whole);
      after = related_after x b (translated rule_a (ref code User at write) b).1 g r a.quiet;
      guest = guest_access x.size g code x.space at write frame writable r.truthful side s h;
    }

pub allowed_access : (x : Site) (b : World) (g : Guest) (code : Bool) (at : ℕ) (write : Bool) → Related x b g → at < 2 ^ 32 → (write ≡ true → code ≡ false)
    → allows g.shadow (ref code x.space at write) ≡ true → Allowed x b g code at write
allowed_access x b g code at write r l side h = allowed_by x b g code at write r l side (g.shadow.entries x.space (page_of at)) refl h

refused_by : (x : Site) (b : World) (g : Guest) (code : Bool) (at : ℕ) (write : Bool) → Related x b g → at < 2 ^ 32
    → (o : Option (ℕ × Bool)) → g.shadow.entries x.space (page_of at) ≡ o → lets o write ≡ false
    → Translates x b None (translated rule_a (ref code User at write) b)
refused_by x b g code at write r l None s h =
    let a = access x b g code at write r l in
    record { answer = a.answer ∙ ap (λ (o : Option (ℕ × Bool)). wanted (board_entry x.base o) at write) s; quiet = a.quiet }
refused_by x b g code at write r l (Some (frame, writable)) s h =
    let a = access x b g code at write r l in
    record {
      answer = a.answer ∙ ap (λ (o : Option (ℕ × Bool)). wanted (board_entry x.base o) at write) s
          ∙ ap (λ (v : Bool). cond v (Some (placed_at (x.base / 4096 + frame) at)) None) h;
      quiet = a.quiet;
    }

pub refused_access : (x : Site) (b : World) (g : Guest) (code : Bool) (at : ℕ) (write : Bool) → Related x b g → at < 2 ^ 32
    → allows g.shadow (ref code x.space at write) ≡ false → Translates x b None (translated rule_a (ref code User at write) b)
refused_access x b g code at write r l h = refused_by x b g code at write r l (g.shadow.entries x.space (page_of at)) refl h

-- ---- reading and writing at related places

is_in_ram : (size p len : ℕ) → p + len ≤ size → in_ram size p len ≡ true
is_in_ram size p len h = grind (arith, nat_tests)

pub room : (x : Site) (b : World) (g : Guest) → Related x b g → x.base + x.size ≤ length b.ram
room x b g r = let u : x.base + x.size ≤ x.slots.area = r.under in let o : x.slots.area + AREA_BYTES ≤ length b.ram = r.maps.inside in omega arith

pub guest_size : (x : Site) (b : World) (g : Guest) → Related x b g → length g.world.ram ≡ x.size
guest_size x b g r = sym (ap (λ (m : List ℕ). length m) r.ram) ∙ length-part b.ram x.base x.size (room x b g r)

pub guest_bytes : (x : Site) (b : World) (g : Guest) → Related x b g → AreBytes g.world.ram
guest_bytes x b g r = subst AreBytes r.ram (bytes-part b.ram x.base x.size r.bytes)

-- the guest's shadow may be relied on
pub sound_of : (x : Site) (b : World) (g : Guest) → Related x b g → Sound x.size g
sound_of x b g r = record { truthful = r.truthful; count = guest_size x b g r; bytes = guest_bytes x b g r }

pub guest_in_ram : (x : Site) (b : World) (g : Guest) (p len : ℕ) → Related x b g → p + len ≤ x.size → in_ram (length g.world.ram) p len ≡ true
guest_in_ram x b g p len r h = is_in_ram (length g.world.ram) p len (let e = guest_size x b g r in omega arith)

pub board_in_ram : (x : Site) (b : World) (g : Guest) (p len : ℕ) → Related x b g → p + len ≤ x.size → in_ram (length b.ram) (x.base + p) len ≡ true
board_in_ram x b g p len r h = is_in_ram (length b.ram) (x.base + p) len (let e = room x b g r in omega arith)

pub same_number : (x : Site) (b : World) (g : Guest) (p len : ℕ) → Related x b g → p + len ≤ x.size
    → number_at b.ram (x.base + p) len ≡ number_at g.world.ram p len
same_number x b g p len r h = sym (number-part b.ram x.base x.size p len h) ∙ ap (λ (m : List ℕ). number_at m p len) r.ram

-- the board and the guest, where both have a number at the same place
abbrev pub wrote_board : Site → World → ℕ → ℕ → ℕ → World
wrote_board x b p len v = record b { ram = with_number b.ram (x.base + p) len v }

pub written : (x : Site) (b : World) (g : Guest) (p len v : ℕ) → Related x b g → p + len ≤ x.size → Related x (wrote_board x b p len v) (wrote_guest g p len v)
written x b g p len v r h =
    let bytes = big_bytes len v in
    let count : length bytes ≡ len = length-bytes_high_first len v in
    let fits = room x b g r in
    let after = with_number b.ram (x.base + p) len v in
    let under : x.base + x.size ≤ x.slots.area = r.under in
    let inside : x.slots.area + AREA_BYTES ≤ length b.ram = r.maps.inside in
    let size : length after ≡ length b.ram = length-with_number b.ram (x.base + p) len v (omega arith) in
    let tables = tables_are_of_the_area x.slots b.ram after r.maps (omega arith)
    (ap (take AREA_BYTES) (drop-over b.ram bytes x.slots.area (x.base + p) (omega arith) (omega arith))) in
    let same : (page : ℕ) → mapping x after page ≡ mapping x b.ram page = λ page. ap (λ (s : Shadowed). s.entries x.space page) tables.1 in
    record {
      bytes = bytes-with_number b.ram (x.base + p) len v r.bytes;
      maps = tables.0;
      under = r.under;
      whole = r.whole;
      ram = part-over b.ram bytes x.base x.size p (omega arith) fits ∙ ap (λ (m : List ℕ). with_number m p len v) r.ram;
      root = r.root;
      small = r.small;
      shadow = tables.1 ∙ r.shadow;
      kept = λ k is user. let a = r.kept k is user in (same k.page ∙ a.0, a.1);
      no_match = r.no_match;
      truthful = record { reads = r.truthful.reads; writes = r.truthful.writes; inside = r.truthful.inside };
    }
