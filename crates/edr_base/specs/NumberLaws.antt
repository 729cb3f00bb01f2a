-- Laws of numbers as text: a text is one number at most, and a number as it is written is a numeral.
use Rattle.std.proofs.Common.{◌≡◌, ◌⊎◌, inl, inr, ℕ, zero, suc, ◌<◌, ◌≤◌, ◌^◌, ℤ, pos, negsuc, Bool, true, false, not, ◌==◌, List, [], ◌∷◌, ◌++◌, length, replicate, refl, sym, ap, ◌∙◌, subst}
use Rattle.std.specs.Int.{IsInRange}
use Rattle.std.specs.Int.RustNames.{unsigned_abs}
use Rattle.std.specs.Fmt.{decimal, signed_decimal}
use Rattle.std.specs.Char.{is_ascii_digit}
use Rattle.std.specs.List.{AllPass}
use Rattle.std.specs.Str.Parse.{AllDigits, digits_value}
use Rattle.std.proofs.lemmas.Bool.{false≢true, leb-true, le-leb, eqb-true, ne_eqb, and_from, not_from_true}
use Rattle.std.proofs.lemmas.Fmt.{decimal_is_IsNumeral}
use Rattle.std.proofs.lemmas.List.{append-nil}
use Rattle.std.proofs.lemmas.List.Elements.{All-head, All-tail}
use Rattle.std.proofs.lemmas.Str.Parse.{digit_from_value}
use Rattle.std.proofs.Math.Nat.{zero-lt-suc, lt_irrefl, le_of_suc-le}
use Rattle.edr_base.specs.declared.numbers.Sign.{Sign}
use Rattle.edr_base.specs.declared.numbers.Sign.TheVariants.{NoSign, Plus, Minus}
use Rattle.edr_base.specs.Numbers.{IsPoint, IsUnsigned, IsNumeral, IsWhole, sign_text, signed}
use Rattle.edr_base.specs.NumberParts.{NonePass, Stops, IsSplit, IsNotSigned, IsSignSplit}
use Rattle.edr_base.specs.SplitLaws.{same_first, same_rest, IsSplit-unique}

-- ---- numbers that are told apart by a test

differ : (a b : ℕ) → (a == b) ≡ false → a ≡ b → (b == b) ≡ false
differ a b f e = subst (λ (x : ℕ). (x == b) ≡ false) e f

-- a digit isn't a number below 48
digit-not : (c n : ℕ) → IsInRange 48 57 c → (48 ≤ n → ⊥) → c ≡ n → ⊥
digit-not c n h low e = low (subst (λ (x : ℕ). 48 ≤ x) e h.0)

not-43 : 48 ≤ 43 → ⊥
not-43 h = false≢true (le-leb 48 43 h)

not-45 : 48 ≤ 45 → ⊥
not-45 h = false≢true (le-leb 48 45 h)

not-32 : 48 ≤ 32 → ⊥
not-32 h = false≢true (le-leb 48 32 h)

-- ---- a number without a sign

abbrev pub not_digit : ℕ → Bool
not_digit c = not (is_ascii_digit c)

digit-none : (c : ℕ) → IsInRange 48 57 c → not_digit c ≡ false
digit-none c h = not_from_true (is_ascii_digit c) (and_from _ _ (le-leb 48 c h.0) (le-leb c 57 h.1))

digits-none : (ds : List ℕ) → AllDigits 10 ds → NonePass not_digit ds
digits-none [] all = tt
digits-none (d ∷ ds) all = (digit-none d (digit_from_value d all.0), digits-none ds all.1)

point-stops : (point : List ℕ) → IsPoint point → Stops not_digit point
point-stops [] h = tt
point-stops (c ∷ zeros) h = subst (λ (x : ℕ). not_digit x ≡ true) (sym h.0) refl

-- a number without a sign is split before the first byte that is no digit
pub unsigned-split : (text : List ℕ) (n : ℕ) (u : IsUnsigned text n) → IsSplit not_digit text u.digits u.point
unsigned-split text n u = record { text_is = u.text_is; before = digits-none u.digits u.are_digits; stops = point-stops u.point u.is_point }

pub unsigned-unique : (text : List ℕ) (m n : ℕ) → IsUnsigned text m → IsUnsigned text n → m ≡ n
unsigned-unique text m n u w =
    u.size_is ∙ (ap (digits_value 10) (IsSplit-unique not_digit text u.digits u.point w.digits w.point (unsigned-split text m u) (unsigned-split text n w)).0 ∙ sym w.size_is)

-- ---- the sign

point-not : (c n : ℕ) → c ≡ 46 → (46 == n) ≡ false → c ≡ n → (n == n) ≡ false
point-not c n e f g = differ 46 n f (sym e ∙ g)

not_signed : (digits point : List ℕ) → AllDigits 10 digits → IsPoint point → IsNotSigned (digits ++ point)
not_signed [] [] all is = tt
not_signed [] (c ∷ zeros) all is = (λ f. false≢true (sym (point-not c 43 is.0 refl f)), λ f. false≢true (sym (point-not c 45 is.0 refl f)))
not_signed (d ∷ ds) point all is = (λ f. digit-not d 43 (digit_from_value d all.0) not-43 f, λ f. digit-not d 45 (digit_from_value d all.0) not-45 f)

-- a number without a sign has none at its front
pub unsigned-not_signed : (text : List ℕ) (n : ℕ) → IsUnsigned text n → IsNotSigned text
unsigned-not_signed text n u = subst IsNotSigned (sym u.text_is) (not_signed u.digits u.point u.are_digits u.is_point)

plus-minus : ◌≡◌ {A = ℕ} 43 45 → ⊥
plus-minus e = false≢true (sym (differ 43 45 refl e))

-- one sign stands at the front of a text
pub sign-unique : (s t : Sign) (x y : List ℕ) → sign_text s ++ x ≡ sign_text t ++ y → (s ≡ NoSign → IsNotSigned x) → (t ≡ NoSign → IsNotSigned y) → (s ≡ t) × (x ≡ y)
sign-unique NoSign NoSign x y e f g = (refl, e)
sign-unique NoSign Plus x y e f g = absurd ((subst IsNotSigned e (f refl)).0 refl)
sign-unique NoSign Minus x y e f g = absurd ((subst IsNotSigned e (f refl)).1 refl)
sign-unique Plus NoSign x y e f g = absurd ((subst IsNotSigned (sym e) (g refl)).0 refl)
sign-unique Minus NoSign x y e f g = absurd ((subst IsNotSigned (sym e) (g refl)).1 refl)
sign-unique Plus Plus x y e f g = (refl, same_rest 43 43 x y e)
sign-unique Minus Minus x y e f g = (refl, same_rest 45 45 x y e)
sign-unique Plus Minus x y e f g = absurd (plus-minus (same_first 43 45 x y e))
sign-unique Minus Plus x y e f g = absurd (plus-minus (sym (same_first 45 43 x y e)))

-- a numeral is the sign at its front and a number without a sign
pub numeral-parts : (text rest : List ℕ) (s : Sign) (v : ℤ) → IsSignSplit text s rest → IsNumeral text v → (size : ℕ) × IsUnsigned rest size × (v ≡ signed s size)
numeral-parts text rest s v p n =
    let e = sign-unique n.sign s n.unsigned rest (sym n.text_is ∙ p.text_is) (λ _. unsigned-not_signed n.unsigned n.size n.is_unsigned) p.all in
    (n.size, subst (λ (l : List ℕ). IsUnsigned l n.size) e.1 n.is_unsigned, n.value_is ∙ ap (λ (x : Sign). signed x n.size) e.0)

-- ---- numerals

-- a text is one numeral at most
pub numeral-unique : (text : List ℕ) (v w : ℤ) → IsNumeral text v → IsNumeral text w → v ≡ w
numeral-unique text v w a b =
    let x = numeral-parts text a.unsigned a.sign w (record { text_is = a.text_is; all = λ _. unsigned-not_signed a.unsigned a.size a.is_unsigned }) b in
    a.value_is ∙ (ap (signed a.sign) (unsigned-unique a.unsigned a.size x.0 a.is_unsigned x.1) ∙ sym x.2)

unsigned-decimal : (n : ℕ) → n < 2 ^ 64 → IsUnsigned (decimal n) n
unsigned-decimal n h =
    let d = decimal_is_IsNumeral n h in
    record { digits = decimal n; point = []; text_is = sym (append-nil (decimal n)); are_digits = d.0.1; is_point = tt; some = inl d.0.0; size_is = sym d.1 }

-- a number as it is written is a numeral of the number
pub numeral-decimal : (z : ℤ) → unsigned_abs z < 2 ^ 64 → IsNumeral (signed_decimal z) z
numeral-decimal (pos n) h = record { sign = NoSign; unsigned = decimal n; size = n; text_is = refl; is_unsigned = unsigned-decimal n h; value_is = refl }
numeral-decimal (negsuc n) h = record { sign = Minus; unsigned = decimal (suc n); size = suc n; text_is = refl; is_unsigned = unsigned-decimal (suc n) h; value_is = refl }

-- a test that no byte of a numeral passes
pub record IsOutside (p : ℕ → Bool) : Type 0 where
  pub plus : p 43 ≡ false
  pub minus : p 45 ≡ false
  pub point : p 46 ≡ false
  pub digit : (c : ℕ) → IsInRange 48 57 c → p c ≡ false

NonePass-append : (p : ℕ → Bool) (a b : List ℕ) → NonePass p a → NonePass p b → NonePass p (a ++ b)
NonePass-append p [] b x y = y
NonePass-append p (c ∷ a) b x y = (x.0, NonePass-append p a b x.1 y)

sign-none : (p : ℕ → Bool) (s : Sign) → IsOutside p → NonePass p (sign_text s)
sign-none p NoSign o = tt
sign-none p Plus o = (o.plus, tt)
sign-none p Minus o = (o.minus, tt)

all-digits : (p : ℕ → Bool) (ds : List ℕ) → IsOutside p → AllDigits 10 ds → NonePass p ds
all-digits p [] o all = tt
all-digits p (d ∷ ds) o all = (o.digit d (digit_from_value d all.0), all-digits p ds o all.1)

all-zeros : (p : ℕ → Bool) (zs : List ℕ) → IsOutside p → AllPass (λ c. c == 48) zs → NonePass p zs
all-zeros p [] o all = tt
all-zeros p (z ∷ zs) o all =
    let e = eqb-true z 48 (All-head (λ (c : ℕ). (c == 48) ≡ true) z zs all) in
    (ap p e ∙ o.digit 48 (leb-true 48 48 refl, leb-true 48 57 refl), all-zeros p zs o (All-tail (λ (c : ℕ). (c == 48) ≡ true) z zs all))

point-none : (p : ℕ → Bool) (point : List ℕ) → IsOutside p → IsPoint point → NonePass p point
point-none p [] o is = tt
point-none p (c ∷ zeros) o is = (ap p is.0 ∙ o.point, all-zeros p zeros o is.1)

-- no byte of a numeral passes such a test
pub numeral-none_pass : (p : ℕ → Bool) (text : List ℕ) (v : ℤ) → IsOutside p → IsNumeral text v → NonePass p text
numeral-none_pass p text v o n =
    let u = n.is_unsigned in
    let whole = NonePass-append p u.digits u.point (all-digits p u.digits o u.are_digits) (point-none p u.point o u.is_point) in
    subst (NonePass p) (sym n.text_is) (NonePass-append p (sign_text n.sign) n.unsigned (sign-none p n.sign o) (subst (NonePass p) (sym u.text_is) whole))

some-length : (a b : List ℕ) → (0 < length a) ⊎ (1 < length b) → 0 < length (a ++ b)
some-length [] b (inl h) = absurd (lt_irrefl 0 h)
some-length [] b (inr h) = le_of_suc-le h
some-length (c ∷ a) b h = zero-lt-suc (length (a ++ b))

more-length : (a b : List ℕ) → 0 < length b → 0 < length (a ++ b)
more-length [] b h = h
more-length (c ∷ a) b h = zero-lt-suc (length (a ++ b))

-- a numeral is a byte or more
pub numeral-some : (text : List ℕ) (v : ℤ) → IsNumeral text v → 0 < length text
numeral-some text v n =
    let u = n.is_unsigned in
    let Some : List ℕ → Type 0 = λ l. 0 < length l in
    subst Some (sym n.text_is) (more-length (sign_text n.sign) n.unsigned (subst Some (sym u.text_is) (some-length u.digits u.point u.some)))

-- ---- numerals between spaces

abbrev pub not_space : ℕ → Bool
not_space c = not (c == 32)

abbrev pub is_space : ℕ → Bool
is_space c = c == 32

outside_space : IsOutside is_space
outside_space = record { plus = refl; minus = refl; point = refl; digit = λ c h. ne_eqb c 32 (digit-not c 32 h not-32) }

pub spaces-none : (n : ℕ) → NonePass not_space (replicate n 32)
spaces-none zero = tt
spaces-none (suc n) = (refl, spaces-none n)

spaces-stop : (n : ℕ) → Stops is_space (replicate n 32)
spaces-stop zero = tt
spaces-stop (suc n) = refl

word-stops : (text rest : List ℕ) → 0 < length text → NonePass is_space text → Stops not_space (text ++ rest)
word-stops [] rest h none = absurd (lt_irrefl 0 h)
word-stops (c ∷ text) rest h none = ap not none.0

-- the text's front of spaces, its word and what follows are those of the whole number
pub whole-parts : (text : List ℕ) (a : ℕ) (t1 word t2 : List ℕ) (v : ℤ) → IsSplit not_space text (replicate a 32) t1 → IsSplit is_space t1 word t2
    → (w : IsWhole text v) → IsNumeral word v × (t2 ≡ replicate w.after 32)
whole-parts text a t1 word t2 v s1 s2 w =
    let none = numeral-none_pass is_space w.numeral v outside_space w.is_numeral in
    let first : IsSplit not_space text (replicate w.before 32) (w.numeral ++ replicate w.after 32) =
    record { text_is = w.text_is; before = spaces-none w.before; stops = word-stops w.numeral (replicate w.after 32) (numeral-some w.numeral v w.is_numeral) none } in
    let t1_is = (IsSplit-unique not_space text _ _ _ _ first s1).1 in
    let second : IsSplit is_space t1 w.numeral (replicate w.after 32) = record { text_is = sym t1_is; before = none; stops = spaces-stop w.after } in
    let e = IsSplit-unique is_space t1 _ _ _ _ second s2 in
    (subst (λ (l : List ℕ). IsNumeral l v) e.0 w.is_numeral, sym e.1)

-- a text is one whole number at most
pub whole-unique : (text : List ℕ) (v w : ℤ) → IsWhole text v → IsWhole text w → v ≡ w
whole-unique text v w x y =
    let none = numeral-none_pass is_space x.numeral v outside_space x.is_numeral in
    let first : IsSplit not_space text (replicate x.before 32) (x.numeral ++ replicate x.after 32) =
    record { text_is = x.text_is; before = spaces-none x.before; stops = word-stops x.numeral (replicate x.after 32) (numeral-some x.numeral v x.is_numeral) none } in
    let second : IsSplit is_space (x.numeral ++ replicate x.after 32) x.numeral (replicate x.after 32) = record { text_is = refl; before = none; stops = spaces-stop x.after } in
    numeral-unique x.numeral v w x.is_numeral (whole-parts text x.before _ x.numeral _ w first second y).0
