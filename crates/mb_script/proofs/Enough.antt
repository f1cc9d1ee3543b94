-- Six words of a line say as much as all of them.
use Rattle.std.proofs.Common.{◌≡◌, List, [], ◌∷◌, ℕ, take, refl}
use Rattle.mb_script.specs.Sessions.{argument_of, begins_disk, begins_turn, disk_of, disk_words_of, fields_of, guest_of, turn_of, turn_words_of}

pub argument_by_six : (keyword : List ℕ) (words : List (List ℕ)) → argument_of keyword (take 6 words) ≡ argument_of keyword words
argument_by_six keyword [] = refl
argument_by_six keyword (a ∷ []) = refl
argument_by_six keyword (a ∷ b ∷ []) = refl
argument_by_six keyword (a ∷ b ∷ c ∷ words) = refl

fields_by_six : (words : List (List ℕ)) → fields_of (take 6 words) ≡ fields_of words
fields_by_six [] = refl
fields_by_six (a ∷ []) = refl
fields_by_six (a ∷ b ∷ []) = refl
fields_by_six (a ∷ b ∷ c ∷ []) = refl
fields_by_six (a ∷ b ∷ c ∷ d ∷ []) = refl
fields_by_six (a ∷ b ∷ c ∷ d ∷ e ∷ []) = refl
fields_by_six (a ∷ b ∷ c ∷ d ∷ e ∷ f ∷ words) = refl

pub guest_by_six : (words : List (List ℕ)) → guest_of (take 6 words) ≡ guest_of words
guest_by_six words = rw (fields_by_six words) refl

pub begins_by_six : (words : List (List ℕ)) → begins_turn (take 6 words) ≡ begins_turn words
begins_by_six [] = refl
begins_by_six (a ∷ words) = refl

turn_words_by_six : (words : List (List ℕ)) → turn_words_of (take 6 words) ≡ turn_words_of words
turn_words_by_six [] = refl
turn_words_by_six (a ∷ []) = refl
turn_words_by_six (a ∷ b ∷ []) = refl
turn_words_by_six (a ∷ b ∷ c ∷ []) = refl
turn_words_by_six (a ∷ b ∷ c ∷ d ∷ words) = refl

pub turn_by_six : (count : ℕ) (words : List (List ℕ)) → turn_of count (take 6 words) ≡ turn_of count words
turn_by_six count words = rw (turn_words_by_six words) refl

pub disk_begins_by_six : (words : List (List ℕ)) → begins_disk (take 6 words) ≡ begins_disk words
disk_begins_by_six [] = refl
disk_begins_by_six (a ∷ words) = refl

disk_words_by_six : (words : List (List ℕ)) → disk_words_of (take 6 words) ≡ disk_words_of words
disk_words_by_six [] = refl
disk_words_by_six (a ∷ []) = refl
disk_words_by_six (a ∷ b ∷ []) = refl
disk_words_by_six (a ∷ b ∷ c ∷ []) = refl
disk_words_by_six (a ∷ b ∷ c ∷ d ∷ []) = refl
disk_words_by_six (a ∷ b ∷ c ∷ d ∷ e ∷ words) = refl

pub disk_by_six : (count : ℕ) (words : List (List ℕ)) → disk_of count (take 6 words) ≡ disk_of count words
disk_by_six count words = rw (disk_words_by_six words) refl
