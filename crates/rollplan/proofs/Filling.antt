-- A list that is filled from a place on: what is put there, its bound, and that it is what a reader has lost.
-- Assumes nothing.
use Rattle.std.proofs.Common.{◌≡◌, ℕ, ◌+◌, ◌-◌, ◌≤◌, List, ◌++◌, length, take, drop, ap, ◌∙◌, arith, le_refl, drop_at, length-drop, length-take, length-take-le, Option, subst, sym}
use Rattle.std.proofs.lemmas.Slice.{take-put_mid_below}
use Rattle.std.proofs.KnownBytes.{Consumes-trans}
use Rattle.std.specs.Io.KnownBytes.{Consumes}
use borrow.Rule.Slice.PartMut.{put_mid, post_of}
use lib.Seq.{take-add, take-append-le}

-- what is put into the rest of a list, from a on, stands behind the first a
pub take-put_mid_more : (a k n : ℕ) (xs ys : List ℕ) → a ≤ length xs → n ≤ length ys → take (a + n) (put_mid a k xs ys) ≡ take a xs ++ take n ys
take-put_mid_more a k n xs ys within fits =
    let all = put_mid a k xs ys in
    let rest = post_of a k xs in
    let behind = drop_at (take a xs) (ys ++ rest) a (length-take-le a xs within) in
    take-add a n all ∙ ap (λ l. l ++ take n (drop a all)) (take-put_mid_below _ _ _ _ _ (le_refl _) within)
    ∙ ap (λ l. take a xs ++ l) (ap (take n) behind ∙ take-append-le n ys rest fits)

-- what a read put behind the front of a buffer is what the input lost by it
pub reads_more : (a k n : ℕ) (buf part : List ℕ) (before mid after : Option (List ℕ)) → a ≤ length buf → n ≤ length part → Consumes before mid (take a buf) → Consumes mid after (take n part) → Consumes before after (take (a + n) (put_mid a k buf part))
reads_more a k n buf part before mid after within fits p q = subst (Consumes before after) (sym (take-put_mid_more a k n buf part within fits)) (Consumes-trans _ _ _ _ _ p q)

-- if what is got into the rest of a buffer, from n on, is within that rest, it is within the buffer
pub rest_within : (n more : ℕ) (buffer rest : List ℕ) → n ≤ length buffer → length rest ≡ length (take (length buffer - n) (drop n buffer)) → more ≤ length rest → n + more ≤ length buffer
rest_within n more buffer rest h e l = omega (arith, length-take (length buffer - n) (drop n buffer), length-drop n buffer)
