use Rattle.std.proofs.Common.{◌≡◌, ◌∙◌, ◌∷◌, ◌++◌, ℕ, List, Bool, ap}
use Rattle.pls_splice.specs.Crossing.{label_at, ring_edge_weight, weight_between}
use Rattle.pls_splice.specs.Ring.{head_of, tail_of}
use Rattle.pls_splice.specs.inner.Keys.{words_from}
use Rattle.pls_splice.proofs.KeyWords.{key_made, same_key}
use Rattle.pls_splice.proofs.edge_key.edge_key.Goals as goal

pub returns : goal.returns
returns c =
    let rows = c.args.net.now in
    let labels = c.args.labels.now in
    let order = c.args.ring.now in
    let i = c.args.i in
    let tail : List Bool = c.label_at-tail_label.result in
    let head : List Bool = c.label_at.result in
    let weight : c.weight_between.result ≡ ring_edge_weight rows order i =
    c.weight_between.ensures
    ∙ ap (λ (tail : ℕ). weight_between rows tail c.head-head.result) c.tail-tail.ensures
    ∙ ap (λ (head : ℕ). weight_between rows (tail_of order i) head) c.head-head.ensures in
    let tail_is : tail ≡ label_at labels (tail_of order i) =
    c.label_at-tail_label.ensures ∙ ap (label_at labels) c.tail-tail.ensures in
    let head_is : head ≡ label_at labels (head_of order i) =
    c.label_at.ensures ∙ ap (label_at labels) c.head-head.ensures in
    key_made c.weight_between.result c.len.result c.in_ok-word.word c.in_ok-word-2.word tail head
    c.new-key.result.items c.push.new.self.items c.push-2.new.self.items c.push_bits.new.key.items
    c.push_bits-2.new.key.items c.push-3.new.self.items c.new-key.ensures.items
    c.in_ok-push.ensures.items c.in_ok-push-2.ensures.items c.in_ok-word.ensures.words
    c.in_ok-word.ensures.last c.in_ok-word-2.ensures.words c.in_ok-word-2.ensures.last
    c.in_ok-push-3.ensures.items
    ∙ ap (λ (long : ℕ). c.weight_between.result ∷ long ∷ words_from 1 (tail ++ head)) c.len.ensures
    ∙ same_key c.weight_between.result (ring_edge_weight rows order i) tail head
    (label_at labels (tail_of order i)) (label_at labels (head_of order i)) weight tail_is head_is
