use Rattle.std.proofs.Common.{◌≡◌, string_bytes}
use Rattle.pls_compile.proofs.ListingLines.{first_lines}
use Rattle.pls_compile.proofs.listing_text.listing.Given as goal

abbrev pub invariant-loop-place : goal.invariant-loop-place
invariant-loop-place l = string_bytes l.text ≡ first_lines l.instrs l.place
