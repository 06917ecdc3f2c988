use Rattle.std.proofs.Common.{◌≡◌, ◌∙◌, false, List, [], ◌∷◌, ◌++◌, sym, ap, subst}
use Rattle.std.specs.Option.{IfSome}
use Rattle.std.proofs.lemmas.List.{map-append}
use Rattle.pls_configuration.specs.declared.row.NodeRow.{NodeRow}
use Rattle.pls_watch.specs.declared.turn.Turn.{Turn}
use Rattle.pls_watch.specs.Labelled.{turn_of, turns_of}
use Rattle.pls_watch.specs.Turning.{restarts_in}
use Rattle.pls_watch.specs.Watching.{Watched}
use Rattle.pls_watch.proofs.Laws.{not_back}
use Rattle.pls_watch.proofs.Stocked.{turns_are}
use Rattle.pls_watch.proofs.watch.Watch.never_back.Goals as goal

pub returns : goal.returns
returns c = λ row at stands has.
    let old = c.self.inside in
    let seen = c.args.self.now in
    let turn : Turn = turn_of c.args.event.now in
    let stays : restarts_in row.id turn ≡ false =
    subst (λ o. IfSome o (λ (row : NodeRow). restarts_in row.id turn ≡ false)) stands
    c.requires.stays in
    let same : turns_of seen.events ≡ old.versions.turns =
    ap (λ (watched : Watched). turns_of watched.events) (sym c.self.view_is)
    ∙ turns_are old.versions old.labels old.most_relabels old.most_bits in
    let grown : turns_of (seen.events ++ c.args.event.now ∷ []) ≡ old.versions.turns ++ turn ∷ [] =
    map-append turn_of seen.events (c.args.event.now ∷ [])
    ∙ ap (λ (turns : List Turn). turns ++ turn ∷ []) same in
    rw (same, grown)
    (not_back seen.network old.versions.turns turn row.id at.nbr c.names_emits.ensures stays)
