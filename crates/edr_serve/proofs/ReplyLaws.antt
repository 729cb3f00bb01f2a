-- Laws of replies: what comes for requests behind others comes behind what comes for those.
use Rattle.std.proofs.Common.{◌≡◌, ℕ, ◌+◌, List, [], ◌∷◌, ◌++◌, length, sym, ap, ◌∙◌, refl, arith, Ok, Err}
use Rattle.std.specs.Prelude.{Result}
use Rattle.std.specs.List.{flat_map}
use mathlib.Core.List.{append_assoc}
use Rattle.edr_base.specs.Calls.{Begins}
use Rattle.edr_base.specs.declared.refusals.Refusal.{Refusal}
use Rattle.edr_edition.specs.Values.{EditionValue}
use Rattle.edr_query.specs.declared.pages.Page.{Page}
use Rattle.edr_serve.specs.Requests.{Request}
use Rattle.edr_serve.specs.Replies.{Reply, reply_from, reply_without, first_reply, replies, count_if_page, readers, bytes_of, chunks_of, output, opened}

-- ---- replies

first_on : (r : Request) (a : Result Page Refusal) (n : ℕ) (es fs : List EditionValue) (k m : List EditionValue → List Reply) (tail : List Reply)
    → ((gs : List EditionValue) → length gs ≡ n → m (gs ++ fs) ≡ k gs ++ tail) → length es ≡ count_if_page a n
    → first_reply r a (es ++ fs) m ≡ first_reply r a es k ++ tail
first_on r (Err refusal) n es fs k m tail ih h = ap (λ w. reply_without r refusal ∷ w) (ih es h)
first_on r (Ok page) n [] fs k m tail ih h = absurd (omega (arith, h))
first_on r (Ok page) n (e ∷ es) fs k m tail ih h = ap (λ w. reply_from r page e ∷ w) (ih es (omega (arith, h)))

pub replies_on : (rs ss : List Request) (es fs : List EditionValue) → length es ≡ readers rs → replies (rs ++ ss) (es ++ fs) ≡ replies rs es ++ replies ss fs
replies_on [] ss [] fs h = refl
replies_on [] ss (e ∷ es) fs h = absurd (omega (arith, h))
replies_on (r ∷ rs) ss es fs h = first_on r r.asked (readers rs) es fs (replies rs) (replies (rs ++ ss)) (replies ss fs) (λ gs e. replies_on rs ss gs fs e) h

-- the first replies begin all
abbrev FirstOf : List Reply → List Reply → Type 0
FirstOf first all = (more : List Reply) × (all ≡ first ++ more)

first_begins : (r : Request) (a : Result Page Refusal) (es : List EditionValue) (k m : List EditionValue → List Reply)
    → ((gs : List EditionValue) → FirstOf (k gs) (m gs)) → FirstOf (first_reply r a es k) (first_reply r a es m)
first_begins r (Err refusal) es k m ih = let b = ih es in (b.0, ap (λ w. reply_without r refusal ∷ w) b.1)
first_begins r (Ok page) [] k m ih = ([], refl)
first_begins r (Ok page) (e ∷ es) k m ih = let b = ih es in (b.0, ap (λ w. reply_from r page e ∷ w) b.1)

replies_begin : (rs ss : List Request) (es : List EditionValue) → FirstOf (replies rs es) (replies (rs ++ ss) es)
replies_begin [] ss es = (replies ss es, refl)
replies_begin (r ∷ rs) ss es = first_begins r r.asked es (replies rs) (replies (rs ++ ss)) (replies_begin rs ss)

-- ---- what is written and opened

flat_on : {A B : Type 0} (f : A → List B) (xs ys : List A) → flat_map f (xs ++ ys) ≡ flat_map f xs ++ flat_map f ys
flat_on f [] ys = refl
flat_on f (x ∷ xs) ys = ap (λ w. f x ++ w) (flat_on f xs ys) ∙ sym (append_assoc (f x) (flat_map f xs) (flat_map f ys))

pub output_on : (rs ss : List Request) (es fs : List EditionValue) → length es ≡ readers rs → output (rs ++ ss) (es ++ fs) ≡ output rs es ++ output ss fs
output_on rs ss es fs h = ap (flat_map bytes_of) (replies_on rs ss es fs h) ∙ flat_on bytes_of (replies rs es) (replies ss fs)

pub opened_on : (rs ss : List Request) (es fs : List EditionValue) → length es ≡ readers rs → opened (rs ++ ss) (es ++ fs) ≡ opened rs es ++ opened ss fs
opened_on rs ss es fs h = ap (flat_map chunks_of) (replies_on rs ss es fs h) ∙ flat_on chunks_of (replies rs es) (replies ss fs)

pub output_first : (rs ss : List Request) (es : List EditionValue) → Begins (output rs es) (output (rs ++ ss) es)
output_first rs ss es =
    let b = replies_begin rs ss es in
    (flat_map bytes_of b.0, ap (flat_map bytes_of) b.1 ∙ flat_on bytes_of (replies rs es) b.0)

count_step : (a : Result Page Refusal) (x y z : ℕ) → z ≡ x + y → count_if_page a z ≡ count_if_page a x + y
count_step (Ok page) x y z e = omega (arith, e)
count_step (Err refusal) x y z e = e

pub readers_on : (rs ss : List Request) → readers (rs ++ ss) ≡ readers rs + readers ss
readers_on [] ss = omega arith
readers_on (r ∷ rs) ss = count_step r.asked (readers rs) (readers ss) (readers (rs ++ ss)) (readers_on rs ss)
