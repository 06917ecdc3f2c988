use Rattle.std.proofs.Common.{◌≡◌, ◌∙◌, ◌++◌, ◌∷◌, [], ℕ, List, ap, arith, codes, length}
use Rattle.pls_lines.specs.Text.{text_of}
use Rattle.pls_compile.specs.Listing.{listing_text}
use Rattle.pls_compile.proofs.ListingLines.{listing_end, more_written}
use Rattle.pls_compile.proofs.listing_text.listing.Goals as goal

pub loop-place-preserved : goal.loop-place-preserved
loop-place-preserved c =
    more_written _ _ _ _ _ c.loop-place-test.true c.loop-place.invariant c.in_ok-put_line.ensures

pub returns : goal.returns
returns c =
    let end : length c.instructions-instrs.result.now ≡ c.loop-place.place =
    omega (arith, c.loop-place-test.false, c.loop-place.auto.place-end) in
    ap (λ text. text.items) c.into_bytes.ensures.value ∙ c.in_ok-push_str.ensures.bytes
    ∙ ap (λ (t : List ℕ). t ++ text_of (codes "end" ∷ [])) c.loop-place.invariant
    ∙ listing_end c.instructions-instrs.result.now c.loop-place.place end
    ∙ ap listing_text c.instructions-instrs.ensures
