-- The bytes of a frame are bytes.
use Rattle.std.proofs.Common.{ℕ, zero, suc, ◌<◌, List, [], ◌∷◌, ◌++◌, slice_index, arith}
use Rattle.std.specs.Int.{byte_at, bytes_high_first}
use Rattle.mb_frames.specs.declared.frame.Frame.{Frame}
use Rattle.mb_frames.specs.Layout.{Field, bytes_of_fields, fields_of, frame_bytes}

abbrev AllBytes : List ℕ → Type 0
AllBytes bytes = (k : ℕ) → slice_index bytes k < 256

byte_small : (k n : ℕ) → byte_at k n < 256
byte_small zero n = omega arith
byte_small (suc k) n = omega arith

in_front : (b : ℕ) (bytes : List ℕ) → b < 256 → AllBytes bytes → AllBytes (b ∷ bytes)
in_front b bytes small h zero = small
in_front b bytes small h (suc k) = h k

none : AllBytes []
none k = omega arith

number_bytes : (n v : ℕ) → AllBytes (bytes_high_first n v)
number_bytes zero v = none
number_bytes (suc n) v = in_front (byte_at n v) (bytes_high_first n v) (byte_small n v) (number_bytes n v)

both : (xs ys : List ℕ) → AllBytes xs → AllBytes ys → AllBytes (xs ++ ys)
both [] ys h k = k
both (x ∷ xs) ys h k = in_front x (xs ++ ys) (h 0) (both xs ys (λ i. h (suc i)) k)

fields_are_bytes : (fs : List Field) → AllBytes (bytes_of_fields fs)
fields_are_bytes [] = none
fields_are_bytes (f ∷ fs) = both (bytes_high_first f.size f.value) (bytes_of_fields fs) (number_bytes f.size f.value) (fields_are_bytes fs)

pub frame_is_bytes : (f : Frame) (k : ℕ) → slice_index (frame_bytes f) k < 256
unfolding frame_bytes
frame_is_bytes f = fields_are_bytes (fields_of f)
