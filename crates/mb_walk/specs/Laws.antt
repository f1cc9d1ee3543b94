-- What a search leaves, and what a search after it finds.
use Rattle.std.specs.Prelude.{◌≡◌, ℕ, ◌+◌, ◌*◌, ◌/◌, ◌%◌, ◌^◌, ◌⊎◌, ◌≢◌, ◌&&◌, not, if◌then◌else◌}
use Rattle.std.specs.Prelude.{Bool, false, List, [], ◌∷◌, ◌++◌, length, Result, Ok, Err}
use Rattle.std.specs.List.{All}
use Rattle.mb_port.specs.declared.types.Space.{Space}
use Rattle.mb_walk.specs.declared.found.Found.{Found}
use Rattle.mb_walk.specs.declared.found.Found.TheVariants.{BusError}
use Rattle.mb_walk.specs.Memory.{number_at, AreBytes}
use Rattle.mb_walk.specs.Descriptors.{page_descriptor, indirection, entry_at, page_table_bytes}
use Rattle.mb_walk.specs.declared.searching.TheConstants.{TABLE_BYTES}
use Rattle.mb_walk.specs.Descriptors.{root_index, pointer_index, page_index}
use Rattle.mb_walk.specs.Search.{Searched, Level, descended, search_of, OnEntry}

-- a descriptor without U and M, its bits 3 and 4
abbrev pub unmarked : ℕ → ℕ
unmarked long = long / 2 ^ 5 * 2 ^ 5 + long % 2 ^ 3

-- No long of memory differs in more than U and M, and U is set wherever it was set.
pub record OnlyMarks (ram after : List ℕ) : Type 0 where
  pub size : length after ≡ length ram
  pub bytes : AreBytes after
  pub longs : (at : ℕ) → at % 4 ≡ 0 → unmarked (number_at after at 4) ≡ unmarked (number_at ram at 4)
  pub used : (at : ℕ) → at % 4 ≡ 0 → number_at ram at 4 / 2 ^ 3 % 2 ≡ 1 → number_at after at 4 / 2 ^ 3 % 2 ≡ 1

-- A search changes U and M alone.
abbrev pub SearchesMark : Type 0
SearchesMark = (ram : List ℕ) (root : ℕ) (space : Space) (page : ℕ) (write big : Bool) → AreBytes ram
    → OnlyMarks ram (search_of ram root space page write big).ram

-- The same search again, or one for no write, finds the same and changes nothing.
abbrev pub SearchesRepeat : Type 0
SearchesRepeat = (ram : List ℕ) (root : ℕ) (space : Space) (page : ℕ) (write again big : Bool) → AreBytes ram
    → (again ≡ false) ⊎ (again ≡ write)
    → search_of (search_of ram root space page write big).ram root space page again big
    ≡ search_of ram root space page write big

-- What a search finds is of the space and the page that it was for.
abbrev pub SearchesNameTheirPage : Type 0
SearchesNameTheirPage = (ram : List ℕ) (root : ℕ) (space : Space) (page : ℕ) (write big : Bool)
    → OnEntry (search_of ram root space page write big).found (λ k. (k.space ≡ space) × (k.page ≡ page))

-- the end of a search in a memory that goes on with more bytes
abbrev pub followed_by : List ℕ → Searched → Searched
followed_by more s = record { ram = s.ram ++ more; found = s.found }

-- A search reads and writes below the size of memory alone, or a bus error ends it: more bytes behind make no
-- difference.
abbrev pub SearchesStayInside : Type 0
SearchesStayInside = (ram more : List ℕ) (root : ℕ) (space : Space) (page : ℕ) (write big : Bool)
    → (search_of ram root space page write big).found ≢ BusError
    → search_of (ram ++ more) root space page write big ≡ followed_by more (search_of ram root space page write big)

-- the places of the descriptors that a search meets in its next levels, where it has not ended
abbrev pub met_below : List ℕ → Result ℕ Found → (List ℕ → ℕ → List ℕ) → List ℕ
met_below ram (Ok descriptor) next = next ram descriptor
met_below ram (Err found) next = []

abbrev pub met_and_below : ℕ → Level → (List ℕ → ℕ → List ℕ) → List ℕ
met_and_below place level next = place ∷ met_below level.ram level.descriptor next

-- of the entry of a page's table, and of the one to which it leads where it is indirect
abbrev pub met_last : List ℕ → ℕ → List ℕ
met_last ram place =
    let d = page_descriptor (number_at ram place 4) in
    if not d.resident && d.indirect then place ∷ indirection (number_at ram place 4) ∷ [] else place ∷ []

-- of all
abbrev pub met : List ℕ → ℕ → ℕ → Bool → List ℕ
met ram root page big =
    let first = entry_at root TABLE_BYTES (root_index page) in
    met_and_below first (descended ram first) (λ ram pointer.
    let second = entry_at pointer TABLE_BYTES (pointer_index page) in
    met_and_below second (descended ram second) (λ ram leaf.
    met_last ram (entry_at leaf (page_table_bytes big) (page_index big page))))

-- A search changes the descriptors that it meets, and no other long.
abbrev pub SearchesChangeWhatTheyMeet : Type 0
SearchesChangeWhatTheyMeet = (ram : List ℕ) (root : ℕ) (space : Space) (page : ℕ) (write big : Bool) (at : ℕ)
    → at % 4 ≡ 0 → All (λ place. place ≢ at) (met ram root page big)
    → number_at (search_of ram root space page write big).ram at 4 ≡ number_at ram at 4
