use Rattle.std.proofs.Common.{◌≡◌, ◌∙◌, ◌==◌, ℕ, List, Option, None, Some, true, false, length, position, sym, subst}
use Rattle.pls_configuration.specs.declared.row.NodeRow.{NodeRow}
use Rattle.pls_distance.specs.inner.Following.{AreFollowed, AreLabelsSoFar}
use Rattle.pls_distance.proofs.Followed.{followed_right, followed_shortest, root_place, shortest_followed}
use Rattle.pls_distance.proofs.spt_scheme.SptRulesMarker.right_labels.Goals as goal

pub returns-in_default-place_of-clause-lacking : goal.returns-in_default-place_of-clause-lacking
returns-in_default-place_of-clause-lacking g c shortest =
    let rows = c.args.net.now in
    let only = rw c.in-Some.is at (c.in_ok-root.ensures.root) in
    let is = root_place rows c.root_and_depths.ensures.valid shortest.tree c.in-Some.root only in
    let no : None ≡ Some is.0 = sym c.in_default-place_of.is ∙ c.place_of.ensures.place ∙ is.2 in
    absurd (cc)

pub returns-then-not-follow_pointers-clause-lacking :
    goal.returns-then-not-follow_pointers-clause-lacking
returns-then-not-follow_pointers-clause-lacking g c shortest =
    let rows = c.args.net.now in
    let only = rw c.in-Some.is at (c.in_ok-root.ensures.root) in
    let deep = rw c.in-Some.is at (c.in_ok-root.ensures.depths) in
    let tree = rw c.in-Some.is at (c.in_ok-root.ensures.holds) in
    let is : position (λ (row : NodeRow). c.in-Some.root == row.id) rows
    ≡ Some c.in-Some-place_of.place = sym c.place_of.ensures.place ∙ c.in-Some-place_of.is in
    let found = c.in_ok-found.found.items in
    let followed =
    shortest_followed rows c.root_and_depths.ensures.valid c.requires tree c.in-Some.root only
    c.in-Some.depths.items deep c.in-Some-place_of.place is found c.in_ok-found.ensures shortest in
    let yes : c.follow_pointers.result ≡ true =
    c.follow_pointers.ensures.1 (subst (AreFollowed rows) (sym c.deref.ensures.value) followed) in
    let no : false ≡ true = sym c.if-not-follow_pointers.true ∙ yes in
    absurd (cc)

pub returns-clause-holds : goal.returns-clause-holds
returns-clause-holds g c =
    let rows = c.args.net.now in
    let only = rw c.in-Some.is at (c.in_ok-root.ensures.root) in
    let deep = rw c.in-Some.is at (c.in_ok-root.ensures.depths) in
    let tree = rw c.in-Some.is at (c.in_ok-root.ensures.holds) in
    let is : position (λ (row : NodeRow). c.in-Some.root == row.id) rows
    ≡ Some c.in-Some-place_of.place = sym c.place_of.ensures.place ∙ c.in-Some-place_of.is in
    let found = c.in_ok-found.found.items in
    let followed : AreFollowed rows found =
    subst (AreFollowed rows) c.deref.ensures.value
    (c.follow_pointers.ensures.0 c.if-not-follow_pointers.false) in
    followed_shortest rows c.root_and_depths.ensures.valid c.requires tree c.in-Some.root only
    c.in-Some.depths.items deep c.in-Some-place_of.place is found c.in_ok-found.ensures
    followed

pub returns-clause-right : goal.returns-clause-right
returns-clause-right g c =
    let rows = c.args.net.now in
    let only = rw c.in-Some.is at (c.in_ok-root.ensures.root) in
    let deep = rw c.in-Some.is at (c.in_ok-root.ensures.depths) in
    let tree = rw c.in-Some.is at (c.in_ok-root.ensures.holds) in
    let is : position (λ (row : NodeRow). c.in-Some.root == row.id) rows
    ≡ Some c.in-Some-place_of.place = sym c.place_of.ensures.place ∙ c.in-Some-place_of.is in
    let found = c.in_ok-found.found.items in
    let followed : AreFollowed rows found =
    subst (AreFollowed rows) c.deref.ensures.value
    (c.follow_pointers.ensures.0 c.if-not-follow_pointers.false) in
    let made : AreLabelsSoFar c.in-Some.root c.in-Some.depths.items found c.in_ok-labels.labels.items
    (length c.in-Some.depths.items) =
    subst (λ (found : List (Option ℕ)). AreLabelsSoFar c.in-Some.root c.in-Some.depths.items found
    c.in_ok-labels.labels.items (length c.in-Some.depths.items)) c.deref-3.ensures.value
    (subst (λ (depths : List ℕ). AreLabelsSoFar c.in-Some.root depths c.deref-3.result.now
    c.in_ok-labels.labels.items (length depths)) c.deref-2.ensures.value c.in_ok-labels.ensures) in
    followed_right rows c.root_and_depths.ensures.valid c.requires tree c.in-Some.root only
    c.in-Some.depths.items deep c.in-Some-place_of.place is found c.in_ok-found.ensures
    followed c.in_ok-labels.labels.items made
