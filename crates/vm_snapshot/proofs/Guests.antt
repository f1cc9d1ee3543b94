-- Guests spell, and snapshots.
use Rattle.std.proofs.Common.{◌≡◌, ℕ, ◌-◌, ◌*◌, ◌/◌, ◌^◌, ◌≤◌, ◌<◌, min, true, false, List, [], ◌∷◌, ◌++◌, refl, sym, ap, ◌∙◌, arith}
use Rattle.std.specs.Prelude.{codes, decimal}
use Rattle.std.proofs.lemmas.Bool.{and_from, and_parts, leb-true, le-leb}
use Rattle.mb_model.specs.declared.outcome.RunState.{RunState}
use Rattle.mb_model.specs.declared.outcome.RunState.TheVariants.{Running, Stopped, Halted, Off}
use Rattle.mb_spelling.specs.Spelling.{Spelling, First, Second, both, behind, before, either, said, word}
use Rattle.mb_spelling.specs.Laws.{Spells}
use Rattle.mb_spelling.specs.Presents.{Heads}
use Rattle.mb_spelling.specs.Hex.{May, IsMay, any_number, masked, number}
use Rattle.mb_spelling.specs.Decimals.{Range, from_to, is_in, ranged}
use Rattle.mb_spelling.specs.Lists.{listed}
use Rattle.mb_spelling.proofs.Combined.{both_spells, either_spells, behind_spells, before_spells, word_spells, said_spells, said_heads, behind_heads, shaped_heads, shaped_spells, either_heads, more_spells, none_spells}
use Rattle.mb_spelling.proofs.Hex.{number_spells, any_is_may, masked_is_may, masked_starts, within_is_may, among_is_may}
use Rattle.mb_spelling.proofs.Ranges.{ranged_spells}
use Rattle.mb_spelling.proofs.Lists.{times_length, listed_spells}
use Rattle.vm_snapshot.specs.Inputs.{InputLine, MOST, counts_32, inputs}
use Rattle.vm_snapshot.specs.Memory.{dump_byte, next_column, dump}
use Rattle.vm_snapshot.specs.Pages.{kept_lines}
use Rattle.vm_snapshot.specs.Guests.{named, long, longs, is_letter, State, state_said, state_parts, states, bit, status, count, steps_below, rams, counts_64, rows_in}
use Rattle.vm_snapshot.specs.Guests.{data_registers, address_registers, control_registers, translation_registers, registers_said, registers_parts, registers}
use Rattle.vm_snapshot.specs.Guests.{Front, front_said, front_parts, front, progress_said, progress_parts, progress, devices_said, devices_parts, devices}
use Rattle.vm_snapshot.specs.Guests.{guest_said, guest_parts, outcome, guest, disk_said, disk_parts, disk_rest, disk, is_disk, guests, boards, snapshot_said, snapshot_parts, snapshot}
use Rattle.mb_spelling.specs.Ends.{SpellsLast, counted}
use Rattle.mb_spelling.proofs.Ends.{both_last, shaped_last}
use Rattle.mb_spelling.proofs.Chains.{ChainsWell, both_heads, counted_spells}
use Rattle.vm_snapshot.proofs.Inputs.{inputs_spell}
use Rattle.vm_snapshot.proofs.Memory.{dump_spells, memory_spells}
use Rattle.vm_snapshot.proofs.Pages.{kept_spell}

-- ---- lines with a name

named_spells : (name : List ℕ) (r : Range) (some : ℕ) → 0 < r.unit → r.most < 2 ^ 64 → is_in r some ≡ true → Spells (named name r)
named_spells name r some unit fits there = behind_spells (name ++ 32 ∷ []) (ranged r 10) (ranged_spells r 10 some unit fits refl there)

long_spells : (name : List ℕ) (may : May) → IsMay may → may 8 0 ≡ true → Spells (long name may)
long_spells name may h m = behind_spells (name ++ 32 ∷ []) (before (number may 8 0) (10 ∷ []))
    (before_spells (number may 8 0) (10 ∷ []) (number_spells may h 8 0 m))

-- what each register of a list can have is what May says
Mays : List (List ℕ × May) → Type 0
Mays [] = Unit {0}
Mays (field ∷ others) = IsMay (field.1) × (field.1 8 0 ≡ true) × Mays others

longs_spell : (fields : List (List ℕ × May)) → Mays fields → Spells (longs fields)
unfolding Mays
longs_spell [] h = none_spells
longs_spell ((name, may) ∷ others) h = more_spells (long name may) (λ value. longs others) (long_spells name may h.0 h.1) (λ value l. longs_spell others h.2)

masks : (mask : ℕ) → IsMay (masked mask) × (masked mask 8 0 ≡ true)
masks mask = (masked_is_may mask, masked_starts mask 8)

bit_spells : (name : List ℕ) → Spells (long name bit)
bit_spells name = long_spells name bit (among_is_may (0 ∷ 1 ∷ [])) refl

status_spells : (queue : List ℕ) → Spells (long (codes "STATUS") (status queue))
status_spells [] = long_spells (codes "STATUS") (status []) (among_is_may (2 ∷ 6 ∷ [])) refl
status_spells (b ∷ queue) = long_spells (codes "STATUS") (status (b ∷ queue)) (among_is_may (3 ∷ 7 ∷ [])) refl

count_spells : (period : ℕ) → period < 2 ^ 32 → Spells (long (codes "COUNT") (count period))
count_spells period fits =
    long_spells (codes "COUNT") (count period) (within_is_may (min 1 period) period (omega arith))
    (and_from _ _ (le-leb (min 1 period / 16 ^ 8) 0 (omega arith)) (le-leb 0 (period / 16 ^ 8) (omega arith)))

-- ---- what the machine does

abbrev StateTexts : Spelling State
StateTexts =
    either (is_letter 114) (said (codes "running\n") Running)
    (either (is_letter 115) (said (codes "stopped\n") Stopped)
    (either (is_letter 104) (said (codes "halted\n") Halted) (said (codes "off\n") Off)))

state_texts : Spells StateTexts
state_texts =
    either_spells (is_letter 114) (said (codes "running\n") Running) _ (said_spells (codes "running\n") Running)
    (either_spells (is_letter 115) (said (codes "stopped\n") Stopped) _ (said_spells (codes "stopped\n") Stopped)
    (either_spells (is_letter 104) (said (codes "halted\n") Halted) (said (codes "off\n") Off) (said_spells (codes "halted\n") Halted)
    (said_spells (codes "off\n") Off) (said_heads (is_letter 104) true 104 (codes "alted\n") Halted refl)
    (said_heads (is_letter 104) false 111 (codes "ff\n") Off refl))
    (said_heads (is_letter 115) true 115 (codes "topped\n") Stopped refl)
    (either_heads (is_letter 115) false (is_letter 104) (said (codes "halted\n") Halted) (said (codes "off\n") Off)
    (said_heads (is_letter 115) false 104 (codes "alted\n") Halted refl) (said_heads (is_letter 115) false 111 (codes "ff\n") Off refl)))
    (said_heads (is_letter 114) true 114 (codes "unning\n") Running refl)
    (either_heads (is_letter 114) false (is_letter 115) (said (codes "stopped\n") Stopped) _
    (said_heads (is_letter 114) false 115 (codes "topped\n") Stopped refl)
    (either_heads (is_letter 114) false (is_letter 104) (said (codes "halted\n") Halted) (said (codes "off\n") Off)
    (said_heads (is_letter 114) false 104 (codes "alted\n") Halted refl) (said_heads (is_letter 114) false 111 (codes "ff\n") Off refl)))

state_there : (v : State) → StateTexts.IsLawful v → state_parts (state_said v) ≡ v
state_there (First state) l = ap (λ (s : RunState). state_parts s) (sym l) ∙ ap First l
state_there (Second (First state)) l = ap (λ (s : RunState). state_parts s) (sym l) ∙ ap (λ (s : RunState). Second (First s)) l
state_there (Second (Second (First state))) l =
    ap (λ (s : RunState). state_parts s) (sym l) ∙ ap (λ (s : RunState). Second (Second (First s))) l
state_there (Second (Second (Second state))) l =
    ap (λ (s : RunState). state_parts s) (sym l) ∙ ap (λ (s : RunState). Second (Second (Second s))) l

state_back : (s : RunState) → state_said (state_parts s) ≡ s
state_back Running = refl
state_back Stopped = refl
state_back Halted = refl
state_back Off = refl

states_spell : Spells states
states_spell = shaped_spells StateTexts state_said state_parts state_texts state_there (λ s l. state_back s)

-- ---- the whole

data_may : Mays data_registers
unfolding Mays
data_may = (
  any_is_may,
  refl,
  (any_is_may, refl, (any_is_may, refl, (any_is_may, refl, (any_is_may, refl, (any_is_may, refl, (any_is_may, refl, (any_is_may, refl, tt))))))),
)

address_may : Mays address_registers
unfolding Mays
address_may = (any_is_may, refl, (any_is_may, refl, (any_is_may, refl, (any_is_may, refl, (any_is_may, refl, (any_is_may, refl, (any_is_may, refl, tt)))))))

control_may : Mays control_registers
unfolding Mays
control_may = (
  any_is_may,
  refl,
  (
    any_is_may,
    refl,
    (
      any_is_may,
      refl,
      (
        any_is_may,
        refl,
        (
          masked_is_may 0xF71F,
          masked_starts 0xF71F 8,
          (
            any_is_may,
            refl,
            (
              masked_is_may 0x7,
              masked_starts 0x7 8,
              (masked_is_may 0x7, masked_starts 0x7 8, (masked_is_may 0x80008000, masked_starts 0x80008000 8, tt)),
            ),
          ),
        ),
      ),
    ),
  ),
)

translation_may : Mays translation_registers
unfolding Mays
translation_may = (
  masked_is_may 0xC000,
  masked_starts 0xC000 8,
  (
    masked_is_may 0xFFFFE364,
    masked_starts 0xFFFFE364 8,
    (
      masked_is_may 0xFFFFE364,
      masked_starts 0xFFFFE364 8,
      (
        masked_is_may 0xFFFFE364,
        masked_starts 0xFFFFE364 8,
        (
          masked_is_may 0xFFFFE364,
          masked_starts 0xFFFFE364 8,
          (
            masked_is_may 0xFFFFFFF7,
            masked_starts 0xFFFFFFF7 8,
            (masked_is_may 0xFFFFFE00, masked_starts 0xFFFFFE00 8, (masked_is_may 0xFFFFFE00, masked_starts 0xFFFFFE00 8, tt)),
          ),
        ),
      ),
    ),
  ),
)

registers_spell : Spells registers
registers_spell =
    shaped_spells _ registers_said registers_parts
    (both_spells (longs data_registers) _ (longs_spell data_registers data_may)
    (λ d l. both_spells (longs address_registers) _ (longs_spell address_registers address_may)
    (λ a l. both_spells (longs control_registers) _ (longs_spell control_registers control_may)
    (λ c l. longs_spell translation_registers translation_may)))) (λ v l. refl) (λ r l. refl)

devices_spell : (queue : List ℕ) → Spells (devices queue)
devices_spell queue =
    shaped_spells _ devices_said devices_parts
    (both_spells (long (codes "CTRL") bit) _ (bit_spells (codes "CTRL"))
    (λ ctrl l. both_spells (long (codes "STATUS") (status queue)) _ (status_spells queue)
    (λ value l. both_spells (long (codes "PERIOD") any_number) _ (long_spells (codes "PERIOD") any_number any_is_may refl)
    (λ period l. both_spells (long (codes "COUNT") (count period)) _
    (count_spells period (let e : period / 16 ^ 8 ≡ 0 = l.0 in omega arith))
    (λ value l. bit_spells (codes "PENDING")))))) (λ v l. refl) (λ d l. refl)

-- the first line that is still to come has a step of 32 bits
first_fits : (lines : List InputLine) → inputs.IsLawful lines → (steps_below lines).most < 2 ^ 64
first_fits [] l = omega arith
first_fits (line ∷ lines) l =
    let step : line.step ≤ MOST = leb-true line.step MOST (and_parts _ _ (and_parts _ _ l.1.0.0).0).1 in
    omega arith

steps_spell : (lines : List InputLine) → inputs.IsLawful lines → Spells (named (codes "steps") (steps_below lines))
steps_spell [] l = named_spells (codes "steps") counts_32 0 (omega arith) (omega arith) refl
steps_spell (line ∷ lines) l =
    named_spells (codes "steps") (steps_below (line ∷ lines)) 0 (omega arith) (first_fits (line ∷ lines) l)
    (and_from _ _ (and_from _ _ refl (le-leb 0 (line.step - 1) (omega arith))) refl)

-- so many bytes in rows, with their count
dumped_spells : (name : List ℕ) (most : ℕ) → most < 2 ^ 64 → Spells (behind name (listed (from_to 0 most) 10 dump))
dumped_spells name most fits =
    behind_spells name (listed (from_to 0 most) 10 dump)
    (listed_spells (from_to 0 most) 10 dump (λ n b l. times_length dump_byte next_column n 0 b l)
    (ranged_spells (from_to 0 most) 10 0 (omega arith) fits refl (and_from _ _ (and_from _ _ refl (le-leb 0 most (omega arith))) refl))
    (λ n l. dump_spells n))

progress_spells : (i : ℕ) (lines : List InputLine) → inputs.IsLawful lines → Spells (progress i lines)
progress_spells i lines lawful =
    shaped_spells _ progress_said progress_parts
    (both_spells (behind (codes "guest " ++ (decimal i ++ codes "\nstate ")) states) _
    (behind_spells (codes "guest " ++ (decimal i ++ codes "\nstate ")) states states_spell)
    (λ state l. both_spells (named (codes "steps") (steps_below lines)) _ (steps_spell lines lawful)
    (λ steps l. both_spells (behind (codes "console ") (listed (from_to 0 65536) 10 dump)) _ (dumped_spells (codes "console ") 65536 (omega arith))
    (λ console l. both_spells (named (codes "lost") counts_64) _ (named_spells (codes "lost") counts_64 0 (omega arith) (omega arith) refl)
    (λ lost l. dumped_spells (codes "queue ") 16 (omega arith)))))) (λ v l. refl) (λ p l. refl)

outcome_spells : (i : ℕ) (first : Front) → rows_in first.ram ≤ 2 ^ 24 → inputs.IsLawful first.input → Spells (outcome i first)
outcome_spells i first few lawful =
    both_spells (progress i first.input) _ (progress_spells i first.input lawful)
    (λ p l. both_spells registers _ registers_spell
    (λ r l. both_spells (devices p.queue) _ (devices_spell p.queue) (λ d l. memory_spells (rows_in first.ram) few)))

front_spells : Spells front
front_spells =
    shaped_spells _ front_said front_parts
    (both_spells (named (codes "ram") rams) _ (named_spells (codes "ram") rams 64 (omega arith) (omega arith) refl)
    (λ ram l. both_spells kept_lines _ kept_spell (λ kept l. inputs_spell))) (λ v l. refl) (λ f l. refl)

guest_spells : (i : ℕ) → Spells (guest i)
guest_spells i =
    shaped_spells _ guest_said guest_parts
    (both_spells front (outcome i) front_spells
    (λ first l. outcome_spells i first
    (let h : first.ram ≤ 16384 = leb-true first.ram 16384 (and_parts _ _ (and_parts _ _ l.0).0).1 in omega arith) l.1.1)) (λ v l. refl) (λ g l. refl)

guest_heads : (i : ℕ) → Heads is_disk false (guest i)
guest_heads i =
    shaped_heads is_disk false _ guest_said guest_parts (both_heads is_disk false front (outcome i)
    (shaped_heads is_disk false _ front_said front_parts
    (both_heads is_disk false (named (codes "ram") rams) (λ ram. both kept_lines (λ kept. inputs))
    (behind_heads is_disk false 114 (codes "am ") (ranged rams 10) refl))))

-- ---- disks

disk_spells : (i : ℕ) → Spells (disk i)
disk_spells i =
    shaped_spells _ disk_said disk_parts
    (both_spells (behind (codes "disk " ++ (decimal i ++ codes " blocks ")) (ranged (from_to 1 32768) 10)) _
    (behind_spells (codes "disk " ++ (decimal i ++ codes " blocks ")) (ranged (from_to 1 32768) 10)
    (ranged_spells (from_to 1 32768) 10 1 (omega arith) (omega arith) refl refl))
    (λ blocks l. both_spells (long (codes "BLOCK") any_number) _ (long_spells (codes "BLOCK") any_number any_is_may refl)
    (λ block l1. both_spells (long (codes "RESULT") bit) _ (bit_spells (codes "RESULT"))
    (λ result l2. both_spells (long (codes "POSITION") (masked 0x1FC)) _
    (long_spells (codes "POSITION") (masked 0x1FC) (masked_is_may 0x1FC) (masked_starts 0x1FC 8))
    (λ position l3. both_spells (dump 512) _ (dump_spells 512)
    (λ buffer l4. memory_spells (32 * blocks)
    (let h : blocks ≤ 32768 = leb-true blocks 32768 (and_parts _ _ (and_parts _ _ l).0).1 in omega arith))))))) (λ v l. refl) (λ d l. refl)

disk_heads : (i : ℕ) → Heads is_disk true (disk i)
disk_heads i =
    shaped_heads is_disk true _ disk_said disk_parts
    (both_heads is_disk true (behind (codes "disk " ++ (decimal i ++ codes " blocks ")) (ranged (from_to 1 32768) 10)) disk_rest
    (behind_heads is_disk true 100 (codes "isk " ++ (decimal i ++ codes " blocks ")) (ranged (from_to 1 32768) 10) refl))

-- ---- all

guests_well : ChainsWell guests
guests_well = record {
  Good = λ i. Unit {0};
  item = λ i good. guest_spells i;
  extra = λ i good. disk_spells i;
  item_heads = λ i good. guest_heads i;
  extra_heads = λ i good. disk_heads i;
  stays = λ i good. tt;
}

counted_guests : SpellsLast (counted guests (from_to 1 16) 10 1)
unfolding guests_well
counted_guests =
    counted_spells guests guests_well (from_to 1 16) 10 1 (omega arith) tt (ranged_spells (from_to 1 16) 10 1 (omega arith) (omega arith) refl refl)

pub snapshot_spells : SpellsLast snapshot
snapshot_spells =
    shaped_last _ snapshot_said snapshot_parts
    (both_last (behind (codes "snapshot 1\n") (named (codes "board") boards)) _
    (behind_spells (codes "snapshot 1\n") (named (codes "board") boards) (named_spells (codes "board") boards 128 (omega arith) (omega arith) refl))
    (λ board l. both_last (named (codes "slice") (from_to 1 MOST)) _ (named_spells (codes "slice") (from_to 1 MOST) 1 (omega arith) (omega arith) refl)
    (λ slice l1. both_last (word (codes "guests ")) _ (word_spells (codes "guests ")) (λ v l2. counted_guests)))) (λ v l. refl) (λ s l. refl)
