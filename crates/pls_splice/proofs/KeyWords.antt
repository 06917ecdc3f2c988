-- Words say the bits that were put into them.
use Rattle.std.proofs.Common.{◌≡◌, ◌∙◌, ℕ, ◌+◌, ◌-◌, ◌*◌, true, false, cond, Bool, nat_lt, List, [], ◌∷◌, ◌++◌, length, append_assoc, refl, sym, ap, arith}
use Rattle.pls_bits.specs.Bytes.{weigh}
use Rattle.pls_splice.specs.inner.Keys.{full_words, last_word, words_from}

-- where bits come from two lists, one behind the other
pub last_word-append : (word : ℕ) (one other : List Bool)
    → last_word word (one ++ other) ≡ last_word (last_word word one) other
last_word-append word [] other = refl
last_word-append word (bit ∷ one) other = by (nat_lt word 4611686018427387904)
    (last_word-append (2 * word + weigh bit) one other) (last_word-append (2 + weigh bit) one other)
  where
    by : (b : Bool)
        → last_word (2 * word + weigh bit) (one ++ other)
        ≡ last_word (last_word (2 * word + weigh bit) one) other
        → last_word (2 + weigh bit) (one ++ other) ≡ last_word (last_word (2 + weigh bit) one) other
        → cond b (last_word (2 * word + weigh bit) (one ++ other))
        (last_word (2 + weigh bit) (one ++ other))
        ≡ last_word (cond b (last_word (2 * word + weigh bit) one) (last_word (2 + weigh bit) one))
        other
    by true less full = less
    by false less full = full

pub full_words-append : (word : ℕ) (one other : List Bool)
    → full_words word (one ++ other) ≡ full_words word one ++ full_words (last_word word one) other
full_words-append word [] other = refl
full_words-append word (bit ∷ one) other = by (nat_lt word 4611686018427387904)
    (full_words-append (2 * word + weigh bit) one other)
    (full_words-append (2 + weigh bit) one other)
  where
    by : (b : Bool)
        → full_words (2 * word + weigh bit) (one ++ other)
        ≡ full_words (2 * word + weigh bit) one
        ++ full_words (last_word (2 * word + weigh bit) one) other
        → full_words (2 + weigh bit) (one ++ other)
        ≡ full_words (2 + weigh bit) one ++ full_words (last_word (2 + weigh bit) one) other
        → cond b (full_words (2 * word + weigh bit) (one ++ other))
        (word ∷ full_words (2 + weigh bit) (one ++ other))
        ≡ cond b (full_words (2 * word + weigh bit) one) (word ∷ full_words (2 + weigh bit) one)
        ++ full_words (cond b (last_word (2 * word + weigh bit) one) (last_word (2 + weigh bit) one))
        other
    by true less full = less
    by false less full = ap (λ (words : List ℕ). word ∷ words) full

-- the word that has these bits behind a one, the last bit first
abbrev word_of : List Bool → ℕ
word_of [] = 1
word_of (bit ∷ bits) = 2 * word_of bits + weigh bit

-- the bits in front of others, the last bit first
abbrev onto : List Bool → List Bool → List Bool
onto [] bits = bits
onto (bit ∷ front) bits = onto front (bit ∷ bits)

positive : (bits : List Bool) → 1 + (word_of bits - 1) ≡ word_of bits
positive [] = refl
positive (bit ∷ bits) = let more = positive bits in omega arith

same_bit : (one other : ℕ) (b d : Bool) → 2 * one + weigh b ≡ 2 * other + weigh d → b ≡ d
same_bit one other true true e = refl
same_bit one other false false e = refl
same_bit one other true false e = absurd (omega arith)
same_bit one other false true e = absurd (omega arith)

same_word : (p q : List Bool) → word_of p ≡ word_of q → p ≡ q
same_word [] [] e = refl
same_word [] (bit ∷ q) e = let more = positive q in absurd (omega arith)
same_word (bit ∷ p) [] e = let more = positive p in absurd (omega arith)
same_word (b ∷ p) (d ∷ q) e =
    let bit : b ≡ d = same_bit (word_of p) (word_of q) b d e in
    let less : word_of p ≡ word_of q = let w = ap weigh bit in omega arith in
    ap (λ (b : Bool). b ∷ p) bit ∙ ap (λ (p : List Bool). d ∷ p) (same_word p q less)

-- a word that is full, and then the words of the bits behind it
full_first : (word : ℕ) (bit : Bool) (bits : List Bool)
    → nat_lt word 4611686018427387904 ≡ false
    → words_from word (bit ∷ bits) ≡ word ∷ words_from (2 + weigh bit) bits
full_first word bit bits full = rw full refl

more_first : (word : ℕ) (bit : Bool) (bits : List Bool)
    → nat_lt word 4611686018427387904 ≡ true
    → words_from word (bit ∷ bits) ≡ words_from (2 * word + weigh bit) bits
more_first word bit bits less = rw less refl

not_empty : (words : List ℕ) (last : ℕ) → [] ≡ words ++ last ∷ [] → ⊥
not_empty [] last e = absurd (cc)
not_empty (word ∷ words) last e = absurd (cc)

head_same : (x y : ℕ) (xs ys : List ℕ) → x ∷ xs ≡ y ∷ ys → x ≡ y
head_same x y xs ys e = cc

rest_same : (x y : ℕ) (xs ys : List ℕ) → x ∷ xs ≡ y ∷ ys → xs ≡ ys
rest_same x y xs ys e = cc

-- a full word has more behind it than a last word
not_last : (x word : ℕ) (bit : Bool) (bits : List Bool)
    → nat_lt word 4611686018427387904 ≡ false → x ∷ [] ≡ words_from word (bit ∷ bits) → ⊥
not_last x word bit bits full e =
    not_empty (full_words (2 + weigh bit) bits) (last_word (2 + weigh bit) bits)
    (rest_same x word [] (words_from (2 + weigh bit) bits) (e ∙ full_first word bit bits full))

same_onto : (p q a b : List Bool) → words_from (word_of p) a ≡ words_from (word_of q) b
    → onto p a ≡ onto q b
same_onto p q [] [] e =
    ap (λ (p : List Bool). onto p [])
    (same_word p q (head_same (word_of p) (word_of q) [] [] e))
same_onto p q [] (y ∷ b) e = by (nat_lt (word_of q) 4611686018427387904) refl
    (λ t. same_onto p (y ∷ q) [] b (e ∙ more_first (word_of q) y b t))
  where
    by : (t : Bool) → nat_lt (word_of q) 4611686018427387904 ≡ t
        → (nat_lt (word_of q) 4611686018427387904 ≡ true → onto p [] ≡ onto q (y ∷ b))
        → onto p [] ≡ onto q (y ∷ b)
    by true t on = on t
    by false t on = absurd (not_last (word_of p) (word_of q) y b t e)
same_onto p q (x ∷ a) [] e = by (nat_lt (word_of p) 4611686018427387904) refl
    (λ t. same_onto (x ∷ p) q a [] (sym (more_first (word_of p) x a t) ∙ e))
  where
    by : (t : Bool) → nat_lt (word_of p) 4611686018427387904 ≡ t
        → (nat_lt (word_of p) 4611686018427387904 ≡ true → onto p (x ∷ a) ≡ onto q [])
        → onto p (x ∷ a) ≡ onto q []
    by true t on = on t
    by false t on = absurd (not_last (word_of q) (word_of p) x a t (sym e))
same_onto p q (x ∷ a) (y ∷ b) e =
    by (nat_lt (word_of p) 4611686018427387904) (nat_lt (word_of q) 4611686018427387904) refl refl
    (λ t. same_onto (x ∷ p) q a (y ∷ b) (sym (more_first (word_of p) x a t) ∙ e))
    (λ v. same_onto p (y ∷ q) (x ∷ a) b (e ∙ more_first (word_of q) y b v))
    (λ same. same_onto (x ∷ []) (y ∷ []) a b same)
  where
    by : (t u : Bool) → nat_lt (word_of p) 4611686018427387904 ≡ t
        → nat_lt (word_of q) 4611686018427387904 ≡ u
        → (nat_lt (word_of p) 4611686018427387904 ≡ true → onto p (x ∷ a) ≡ onto q (y ∷ b))
        → (nat_lt (word_of q) 4611686018427387904 ≡ true → onto p (x ∷ a) ≡ onto q (y ∷ b))
        → (words_from (2 + weigh x) a ≡ words_from (2 + weigh y) b → x ∷ a ≡ y ∷ b)
        → onto p (x ∷ a) ≡ onto q (y ∷ b)
    by true u t v first second rest = first t
    by false true t v first second rest = second v
    by false false t v first second rest =
        let both = sym (full_first (word_of p) x a t) ∙ e ∙ full_first (word_of q) y b v in
        let front : p ≡ q = same_word p q (head_same (word_of p) (word_of q)
        (words_from (2 + weigh x) a) (words_from (2 + weigh y) b) both) in
        let behind : x ∷ a ≡ y ∷ b = rest (rest_same (word_of p) (word_of q)
        (words_from (2 + weigh x) a) (words_from (2 + weigh y) b) both) in
        ap (λ (p : List Bool). onto p (x ∷ a)) front ∙ ap (onto q) behind

-- words say their bits
pub same_bits : (a b : List Bool) → words_from 1 a ≡ words_from 1 b → a ≡ b
same_bits a b e = same_onto [] [] a b e

-- what is put one after another is a key
pub key_made : (weight long word last : ℕ) (tail head : List Bool) (k0 k1 k2 k3 k4 k5 : List ℕ)
    → k0 ≡ [] → k1 ≡ k0 ++ weight ∷ [] → k2 ≡ k1 ++ long ∷ [] → k3 ≡ k2 ++ full_words 1 tail
    → word ≡ last_word 1 tail → k4 ≡ k3 ++ full_words word head → last ≡ last_word word head
    → k5 ≡ k4 ++ last ∷ [] → k5 ≡ weight ∷ long ∷ words_from 1 (tail ++ head)
key_made weight long word last tail head k0 k1 k2 k3 k4 k5 e0 e1 e2 e3 ew e4 el e5 =
    let words : words_from 1 (tail ++ head)
    ≡ full_words 1 tail ++ (full_words word head ++ last ∷ []) =
    ap (λ (words : List ℕ). words ++ last_word 1 (tail ++ head) ∷ [])
    (full_words-append 1 tail head
    ∙ ap (λ (word : ℕ). full_words 1 tail ++ full_words word head) (sym ew))
    ∙ ap (λ (last : ℕ). (full_words 1 tail ++ full_words word head) ++ last ∷ [])
    (last_word-append 1 tail head ∙ ap (λ (word : ℕ). last_word word head) (sym ew) ∙ sym el)
    ∙ append_assoc (full_words 1 tail) (full_words word head) (last ∷ []) in
    let two : k2 ≡ weight ∷ long ∷ [] = rw (e2, e1, e0) refl in
    e5
    ∙ ap (λ (words : List ℕ). words ++ last ∷ []) (e4
    ∙ ap (λ (words : List ℕ). words ++ full_words word head) (e3
    ∙ ap (λ (words : List ℕ). words ++ full_words 1 tail) two))
    ∙ append_assoc (weight ∷ long ∷ full_words 1 tail) (full_words word head) (last ∷ [])
    ∙ ap (λ (words : List ℕ). weight ∷ long ∷ words) (sym words)

pub same_key : (weight other : ℕ) (tail head front behind : List Bool) → weight ≡ other → tail ≡ front
    → head ≡ behind
    → weight ∷ length tail ∷ words_from 1 (tail ++ head)
    ≡ other ∷ length front ∷ words_from 1 (front ++ behind)
same_key weight other tail head front behind a b c = rw (a, b, c) refl
