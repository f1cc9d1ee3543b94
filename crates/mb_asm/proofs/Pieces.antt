-- Chunks at addresses of 32 bits.
use Rattle.std.proofs.Common.{◌≡◌, ℕ, ◌+◌, ◌≤◌, List, [], ◌∷◌, ◌++◌, length, subst, sym}
use Rattle.std.specs.List.{All}
use Rattle.std.proofs.lemmas.List.{map-append}
use Rattle.std.proofs.lemmas.List.Elements.{All-append, All-cons, All-nil}
use Rattle.mb_srec.specs.declared.image.Chunk.{Chunk}
use Rattle.mb_srec.specs.Image.{IsAddressed, all_contents, content_of}

pub pushed : (chunks : List Chunk) (chunk : Chunk) (at : ℕ) (bytes : List ℕ) → content_of chunk ≡ (at, bytes) → at + length bytes ≤ 4294967296
    → All IsAddressed (all_contents chunks) → All IsAddressed (all_contents (chunks ++ chunk ∷ []))
pushed chunks chunk at bytes is inside all =
    let last : IsAddressed (content_of chunk) = subst (λ (content : ℕ × List ℕ). IsAddressed content) (sym is) inside in
    let both : All IsAddressed (all_contents chunks ++ content_of chunk ∷ []) =
    All-append IsAddressed (all_contents chunks) (content_of chunk ∷ []) all (All-cons IsAddressed (content_of chunk) [] last (All-nil IsAddressed)) in
    subst (λ (contents : List (ℕ × List ℕ)). All IsAddressed contents) (sym (map-append content_of chunks (chunk ∷ []))) both
