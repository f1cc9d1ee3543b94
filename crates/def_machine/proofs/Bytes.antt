-- Memory stays bytes.
use Rattle.std.proofs.Common.{ℕ, zero, suc, ◌^◌, ◌<◌, Bool, true, false, List, [], ◌∷◌, ◌++◌, length, take, drop}
use Rattle.std.specs.Prelude.{Option, Some, None, Result, Ok, Err, if◌then◌else◌, ◌+◌, unwrap_or}
use Rattle.std.proofs.lemmas.List.Elements.{All-nil, All-cons, All-append, All-take, All-drop}
use Rattle.std.specs.Int.{bytes_high_first, byte_at}
use Rattle.byteorder.specs.Endian.{big_bytes}
use Rattle.mb_port.specs.declared.types.Place.{Place}
use Rattle.mb_port.specs.declared.types.Space.{Space}
use Rattle.mb_port.specs.declared.types.MmuReg.{MmuReg}
use Rattle.mb_port.specs.Routine.{Call, Fetch, Read, Write, ReadLine, WriteLine, Probe, Get, Put, ReadMmu, SetMmu, FlushKept, Test, ResetDevices}
use Rattle.mb_model.specs.Keeping.{Rule}
use Rattle.mb_walk.specs.declared.found.Found.{Found}
use Rattle.mb_walk.specs.declared.found.Found.TheVariants.{Entry, Invalid, BusError}
use Rattle.mb_walk.specs.Memory.{overwritten, with_number, AreBytes}
use Rattle.mb_walk.specs.Search.{Searched, Level, below, descended, paged, pointed, ended, search_of, and_below}
use Rattle.def_machine.specs.declared.reference.Reference.{Reference}
use Rattle.def_machine.specs.declared.reference.Settled.{Settled}
use Rattle.def_machine.specs.declared.reference.Settled.TheVariants.{To, Refused, Unsettled}
use Rattle.def_machine.specs.World.{World, HasBytes}
use Rattle.def_machine.specs.Places.{Stand, memory, register, nowhere, taken, taken_at, stored, stored_at, checked, taken_line, stored_line, with_longs}
use Rattle.def_machine.specs.Access.{search_for, searched, translated, by_settled, by_found}
use Rattle.def_machine.specs.Bus.{bus_of, read_at, read_by, written_at, written_by, wrote, tested, tested_by, after_set_mmu}
use Rattle.mb_walk.proofs.LongLemmas.{byte_small}

-- ---- what is written

bytes-of : (n value : ℕ) → AreBytes (bytes_high_first n value)
bytes-of zero value = let P : ℕ → Type 0 = λ byte. byte < 2 ^ 8 in All-nil P
bytes-of (suc n) value =
    let P : ℕ → Type 0 = λ byte. byte < 2 ^ 8 in All-cons P (byte_at n value) (bytes_high_first n value) (byte_small n value) (bytes-of n value)

pub bytes-overwritten : (ram : List ℕ) (at : ℕ) (bytes : List ℕ) → AreBytes ram → AreBytes bytes → AreBytes (overwritten ram at bytes)
bytes-overwritten ram at bytes h g =
    let P : ℕ → Type 0 = λ byte. byte < 2 ^ 8 in
    All-append P (take at ram ++ bytes) (drop (at + length bytes) ram)
    (All-append P (take at ram) bytes (All-take P at ram h) g)
    (All-drop P (at + length bytes) ram h)

pub bytes-with_number : (ram : List ℕ) (at n value : ℕ) → AreBytes ram → AreBytes (with_number ram at n value)
bytes-with_number ram at n value h = bytes-overwritten ram at (big_bytes n value) h (bytes-of n value)

bytes-with_longs : (ram : List ℕ) (at : ℕ) (line : List ℕ) → AreBytes ram → AreBytes (with_longs ram at line)
bytes-with_longs ram at [] h = h
bytes-with_longs ram at (value ∷ values) h = bytes-with_longs (with_number ram at 4 value) (at + 4) values (bytes-with_number ram at 4 value h)

-- ---- the search

record Marked (s : Searched) : Type 0 where
  bytes : AreBytes s.ram

record MarkedLevel (s : Level) : Type 0 where
  bytes : AreBytes s.ram

-- either of two, by a test
either_way : (b : Bool) (s t : Searched) → Marked s → Marked t → Marked (if b then s else t)
either_way true s t h g = h
either_way false s t h g = g

either_level : (b : Bool) (s t : Level) → MarkedLevel s → MarkedLevel t → MarkedLevel (if b then s else t)
either_level true s t h g = h
either_level false s t h g = g

bytes-descended : (ram : List ℕ) (place : ℕ) → AreBytes ram → MarkedLevel (descended ram place)
unfolding descended
bytes-descended ram place h =
    either_level _ _ _ (either_level _ _ _ (record { bytes = bytes-with_number ram place 4 _ h }) (record { bytes = h })) (record { bytes = h })

bytes-paged : (ram : List ℕ) (place : ℕ) (space : Space) (page : ℕ) (protected write big : Bool) → AreBytes ram
    → Marked (paged ram place space page protected write big)
bytes-paged ram place space page protected write big h = record { bytes = bytes-with_number ram place 4 _ h }

bytes-pointed : (ram : List ℕ) (place : ℕ) (space : Space) (page : ℕ) (protected write big : Bool) → AreBytes ram
    → Marked (pointed ram place space page protected write big)
unfolding pointed
bytes-pointed ram place space page protected write big h =
    either_way _ _ _ (either_way _ _ _ (bytes-paged ram place space page protected write big h) (record { bytes = h })) (record { bytes = h })

bytes-ended : (ram : List ℕ) (place : ℕ) (space : Space) (page : ℕ) (protected write big : Bool) → AreBytes ram
    → Marked (ended ram place space page protected write big)
unfolding ended
bytes-ended ram place space page protected write big h =
    either_way _ _ _
    (either_way _ _ _ (bytes-paged ram place space page protected write big h)
    (either_way _ _ _ (bytes-pointed ram _ space page protected write big h) (record { bytes = h })))
    (record { bytes = h })

bytes-below : (ram : List ℕ) (d : Result ℕ Found) (next : List ℕ → ℕ → Searched) → AreBytes ram
    → ((descriptor : ℕ) → Marked (next ram descriptor)) → Marked (below ram d next)
bytes-below ram (Ok descriptor) next h rest = rest descriptor
bytes-below ram (Err found) next h rest = record { bytes = h }

bytes-and_below : (level : Level) (next : List ℕ → ℕ → Searched) → MarkedLevel level
    → ((ram : List ℕ) (descriptor : ℕ) → AreBytes ram → Marked (next ram descriptor)) → Marked (and_below level next)
bytes-and_below level next h rest = bytes-below level.ram level.descriptor next h.bytes (λ descriptor. rest level.ram descriptor h.bytes)

marked-searched : (ram : List ℕ) (root : ℕ) (space : Space) (page : ℕ) (write big : Bool) → AreBytes ram
    → Marked (search_of ram root space page write big)
marked-searched ram root space page write big h =
    bytes-and_below _ _ (bytes-descended ram _ h) (λ ram pointer h.
    bytes-and_below _ _ (bytes-descended ram _ h) (λ ram leaf h. bytes-ended ram _ space page _ write big h))

pub bytes-searched : (ram : List ℕ) (root : ℕ) (space : Space) (page : ℕ) (write big : Bool) → AreBytes ram
    → AreBytes (search_of ram root space page write big).ram
bytes-searched ram root space page write big h = (marked-searched ram root space page write big h).bytes

-- ---- an access

by_found-bytes : (rule : Rule) (w : World) (r : Reference) (found : Found) → HasBytes w → HasBytes (by_found rule w r found).1
by_found-bytes rule w r (Entry k mmusr) h = record { bytes = h.bytes }
by_found-bytes rule w r Invalid h = h
by_found-bytes rule w r BusError h = h

searched-bytes : (rule : Rule) (w : World) (r : Reference) → HasBytes w → HasBytes (searched rule w r).1
searched-bytes rule w r h =
    let s = search_for w r in
    by_found-bytes rule (record w { ram = s.ram }) r s.found (record { bytes = bytes-searched w.ram _ _ _ _ _ h.bytes })

by_settled-bytes : (rule : Rule) (w : World) (r : Reference) (s : Settled) → HasBytes w → HasBytes (by_settled rule w r s).1
by_settled-bytes rule w r (To at) h = h
by_settled-bytes rule w r Refused h = h
by_settled-bytes rule w r Unsettled h = searched-bytes rule w r h

pub translated-bytes : (rule : Rule) (r : Reference) (w : World) → HasBytes w → HasBytes (translated rule r w).1
unfolding translated
translated-bytes rule r w h = by_settled-bytes rule w r _ h

-- ---- places

taken_at-bytes : (s : Stand) (place : Place) (w : World) → HasBytes w → HasBytes (taken_at s place w).1
taken_at-bytes memory place w h = h
taken_at-bytes (register r) place w h = record { bytes = h.bytes }
taken_at-bytes nowhere place w h = h

taken-bytes : (place : Place) (w : World) → HasBytes w → HasBytes (taken place w).1
taken-bytes place w h = taken_at-bytes _ place w h

taken_line-bytes : (place : Place) (w : World) → HasBytes w → HasBytes (taken_line place w).1
taken_line-bytes place w h = h

-- a world, or none, of bytes
abbrev pub IfBytes : Option World → Type 0
IfBytes (Some w) = HasBytes w
IfBytes None = Unit {0}

stored_at-bytes : (s : Stand) (place : Place) (value : ℕ) (w : World) → HasBytes w → IfBytes (stored_at s place value w)
stored_at-bytes memory place value w h = record { bytes = bytes-with_number w.ram place.at place.len value h.bytes }
stored_at-bytes (register r) place value w h = record { bytes = h.bytes }
stored_at-bytes nowhere place value w h = tt

stored-bytes : (place : Place) (value : ℕ) (w : World) → HasBytes w → IfBytes (stored place value w)
stored-bytes place value w h = stored_at-bytes _ place value w h

if-bytes : (b : Bool) (w : World) → HasBytes w → IfBytes (if b then Some w else None)
if-bytes true w h = h
if-bytes false w h = tt

stored_line-bytes : (place : Place) (line : List ℕ) (w : World) → HasBytes w → IfBytes (stored_line place line w)
stored_line-bytes place line w h =
    if-bytes _ (record w { ram = with_longs w.ram place.at (take 4 line) }) (record { bytes = bytes-with_longs w.ram place.at (take 4 line) h.bytes })

-- ---- the calls

read_at-bytes : {A : Type 0} → (r : Reference) (len : ℕ) (take : Place → World → Option A × World) (o : Option ℕ) (w : World)
    → ((place : Place) (u : World) → HasBytes u → HasBytes (take place u).1) → HasBytes w → HasBytes (read_at r len take o w).1
read_at-bytes r len take (Some at) w keeps h = keeps _ w h
read_at-bytes r len take None w keeps h = h

read_by-bytes : {A : Type 0} → (rule : Rule) (r : Reference) (len : ℕ) (take : Place → World → Option A × World) (w : World)
    → ((place : Place) (u : World) → HasBytes u → HasBytes (take place u).1) → HasBytes w → HasBytes (read_by rule r len take w).1
read_by-bytes rule r len take w keeps h = read_at-bytes r len take _ _ keeps (translated-bytes rule r w h)

wrote-bytes : (w : World) (o : Option World) (fault : _) → HasBytes w → IfBytes o → HasBytes (wrote w o fault).1
wrote-bytes w (Some after) fault h g = g
wrote-bytes w None fault h g = h

written_at-bytes : (r : Reference) (len : ℕ) (store : Place → World → Option World) (o : Option ℕ) (w : World)
    → ((place : Place) (u : World) → HasBytes u → IfBytes (store place u)) → HasBytes w → HasBytes (written_at r len store o w).1
written_at-bytes r len store (Some at) w keeps h = wrote-bytes w _ _ h (keeps _ w h)
written_at-bytes r len store None w keeps h = h

written_by-bytes : (rule : Rule) (r : Reference) (len : ℕ) (store : Place → World → Option World) (w : World)
    → ((place : Place) (u : World) → HasBytes u → IfBytes (store place u)) → HasBytes w → HasBytes (written_by rule r len store w).1
written_by-bytes rule r len store w keeps h = written_at-bytes r len store _ _ keeps (translated-bytes rule r w h)

or_stay-bytes : (o : Option World) (w : World) → HasBytes w → IfBytes o → HasBytes (unwrap_or o w)
or_stay-bytes (Some after) w h g = g
or_stay-bytes None w h g = h

tested_by-bytes : (w : World) (space : Space) (page : ℕ) (write : Bool) (o : Option Bool) → HasBytes w
    → HasBytes (tested_by w space page write o).1
tested_by-bytes w space page write (Some protected) h = h
tested_by-bytes w space page write None h = record { bytes = bytes-searched w.ram _ space page write _ h.bytes }

tested-bytes : (space : Space) (page : ℕ) (write : Bool) (w : World) → HasBytes w → HasBytes (tested space page write w).1
tested-bytes space page write w h = tested_by-bytes w space page write _ h

registered-bytes : (rule : Rule) (which : MmuReg) (value : ℕ) (w : World) → HasBytes w → HasBytes (after_set_mmu rule which value w)
registered-bytes rule which value w h = record { bytes = h.bytes }

pub bus-bytes : (rule : Rule) (c : Call) (w : World) → HasBytes w → HasBytes (bus_of rule c w).1
bus-bytes rule (Fetch space at) w h = read_by-bytes rule _ _ taken w taken-bytes h
bus-bytes rule (Read space p) w h = read_by-bytes rule _ _ taken w taken-bytes h
bus-bytes rule (Write space p value) w h =
    written_by-bytes rule _ _ (λ place. stored place value) w (λ place u. stored-bytes place value u) h
bus-bytes rule (ReadLine space at) w h = read_by-bytes rule _ _ taken_line w taken_line-bytes h
bus-bytes rule (WriteLine space at line) w h =
    written_by-bytes rule _ _ (λ place. stored_line place line) w (λ place u. stored_line-bytes place line u) h
bus-bytes rule (Probe space p) w h = read_by-bytes rule _ _ checked w (λ place u g. g) h
bus-bytes rule (Get place) w h = taken-bytes place w h
bus-bytes rule (Put place value) w h = or_stay-bytes _ w h (stored-bytes place value w h)
bus-bytes rule ReadMmu w h = h
bus-bytes rule (SetMmu which value) w h = registered-bytes rule which value w h
bus-bytes rule (FlushKept what) w h = record { bytes = h.bytes }
bus-bytes rule (Test space at write) w h = tested-bytes space _ write w h
bus-bytes rule ResetDevices w h = record { bytes = h.bytes }
