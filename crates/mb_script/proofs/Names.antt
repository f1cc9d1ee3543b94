-- The characters of a name.
use Rattle.std.proofs.Common.{ℕ, ◌<◌, Bool, true, false, List, [], ◌∷◌, arith, lit<, refl}
use Rattle.std.specs.Prelude.{IsTrue, ◌&&◌}
use Rattle.std.specs.List.{list_all}
use Rattle.std.specs.Str.{IsAscii}
use Rattle.std.proofs.lemmas.Str.Ascii.{IsAscii-cons}
use Rattle.std.proofs.lemmas.Bool.Decides.{nat_tests}
use Rattle.mb_script.specs.Sessions.{is_graphic, is_name, is_some_word}

both : (a b : Bool) → IsTrue (a && b) → IsTrue a × IsTrue b
both true b h = (refl, h)
both false b h = absurd cc

below : (character : ℕ) → IsTrue (is_graphic character) → character < 128
below character h = grind (arith, nat_tests)

graphic_is_ascii : (characters : List ℕ) → IsTrue (list_all is_graphic characters) → IsAscii characters
graphic_is_ascii [] h = λ i. lit< tt
graphic_is_ascii (character ∷ characters) h =
    let parts = both (is_graphic character) (list_all is_graphic characters) h in
    IsAscii-cons character characters (below character parts.0) (graphic_is_ascii characters parts.1)

pub name_is_ascii : (name : List ℕ) → IsTrue (is_name name) → IsAscii name
name_is_ascii name h = graphic_is_ascii name (both (is_some_word name) (list_all is_graphic name) h).1
