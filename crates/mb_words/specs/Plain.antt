-- Commands without options, asked for by plain words.
use Rattle.std.specs.Prelude.{◌≡◌, ◌≤◌, false, [], ◌∷◌, length, codes, Some}
use Rattle.mb_forms.specs.Forms.{begins_with_dash}
use Rattle.mb_words.specs.Words.{Text, asked_by, hosting, comparison}

-- `host NAME` asks to host the session of that file, for each name that is not empty and begins with no hyphen,
abbrev pub HostAsks : Type 0
HostAsks = (program name : Text) → 1 ≤ length name → begins_with_dash name ≡ false
    → asked_by (program ∷ codes "host" ∷ name ∷ []) ≡ Some (hosting name)

-- and `compare NAME` to compare its guests.
abbrev pub CompareAsks : Type 0
CompareAsks = (program name : Text) → 1 ≤ length name → begins_with_dash name ≡ false
    → asked_by (program ∷ codes "compare" ∷ name ∷ []) ≡ Some (comparison name)
