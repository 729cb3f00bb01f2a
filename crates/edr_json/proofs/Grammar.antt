-- The texts of a value that is read from tokens are texts of the tokens.
use Rattle.std.proofs.Common.{◌≡◌, ℕ, zero, suc, ◌+◌, ◌<◌, ◌≤◌, arith, List, [], ◌∷◌, length, IsUtf8, Option, Some, None, option_and_then, refl, ap, subst}
use Rattle.std.specs.Prelude.{⊤}
use Rattle.json.specs.Token as token
use Rattle.json.specs.Token.{Token}
use Rattle.json.specs.Json.{Json, null, boolean, number, string, array, object, Items, no_items, item, Members, no_members, member, Parse, parse_map, after_end_array, read_key, items_step, members_step, items, members, value_with, value, if_last}
use Rattle.edr_json.proofs.Lexemes.{TextsAre}

-- how many items there are
abbrev pub count : Items → ℕ
count no_items = 0
count (item j js) = suc (count js)

-- the texts of a value are UTF-8, and each list has at most that many items
abbrev mutual
  pub ValueIs : ℕ → Json → Type 0
  ValueIs n null = ⊤
  ValueIs n (boolean b) = ⊤
  ValueIs n (number s) = ⊤
  ValueIs n (string s) = IsUtf8 s
  ValueIs n (array js) = ItemsAre n js × (count js ≤ n)
  ValueIs n (object ms) = MembersAre n ms

  pub ItemsAre : ℕ → Items → Type 0
  ItemsAre n no_items = ⊤
  ItemsAre n (item j js) = ValueIs n j × ItemsAre n js

  pub MembersAre : ℕ → Members → Type 0
  MembersAre n no_members = ⊤
  MembersAre n (member k j ms) = IsUtf8 k × ValueIs n j × MembersAre n ms

-- what was read is one thing
same_value : {A : Type 0} (p q : A × List Token) → Some p ≡ Some q → p.0 ≡ q.0
same_value p q h = let same : p ≡ q = cc in ap (λ r. r.0) same

-- and so is what is left
same_rest : {A : Type 0} (p q : A × List Token) → Some p ≡ Some q → p.1 ≡ q.1
same_rest p q h = let same : p ≡ q = cc in ap (λ r. r.1) same

-- what was read under a function
mapped : {A B : Type 0} (f : A → B) (r : Option (A × List Token)) (b : B) (rest : List Token) → parse_map f r ≡ Some (b, rest) → (a : A) × (r ≡ Some (a, rest)) × (f a ≡ b)
mapped f None b rest h = cc
mapped f (Some p) b rest h = (p.0, ap (λ ts. Some (p.0, ts)) (same_rest (f p.0, p.1) (b, rest) h), same_value (f p.0, p.1) (b, rest) h)

-- and what was read first
first : {A B : Type 0} (r : Option (A × List Token)) (next : A × List Token → Option B) (b : B) → option_and_then next r ≡ Some b → (p : A × List Token) × (r ≡ Some p) × (next p ≡ Some b)
first None next b h = cc
first (Some p) next b h = (p, refl, h)

-- what was read of tokens: it is so, and with the tokens that are left it takes fewer than there were
record WasRead {A : Type 0} (P : A → Type 0) (size : A → ℕ) (ts : List Token) (a : A) (rest : List Token) : Type 0 where
  is : P a
  left : TextsAre rest
  fewer : size a + length rest < length ts

-- a parser reads so wherever the texts are UTF-8 and there are few tokens
abbrev Reads : {A : Type 0} → ℕ → (A → Type 0) → (A → ℕ) → Parse A → Type 0
Reads {A} n P size parse = (ts : List Token) (a : A) (rest : List Token) → TextsAre ts → length ts ≤ suc n → parse ts ≡ Some (a, rest) → WasRead P size ts a rest

abbrev alone : {A : Type 0} → A → ℕ
alone a = 0

-- what is read is read whatever it is called
called : {A : Type 0} (P : A → Type 0) (size : A → ℕ) (ts : List Token) (p q : A × List Token) → Some p ≡ Some q → WasRead P size ts p.0 p.1 → WasRead P size ts q.0 q.1
called P size ts p q h was =
    let same : p ≡ q = cc in
    subst (λ r. WasRead P size ts r.0 r.1) same was

module _ (n : ℕ) where
  -- ---- arrays

  -- what follows the bracket are tokens of the list
  after_bracket : (ts rest : List Token) → TextsAre ts → after_end_array ts ≡ Some rest → TextsAre rest × (length rest < length ts)
  after_bracket [] rest are h = cc
  after_bracket (token.begin_object ∷ ts) rest are h = cc
  after_bracket (token.end_object ∷ ts) rest are h = cc
  after_bracket (token.begin_array ∷ ts) rest are h = cc
  after_bracket (token.end_array ∷ ts) rest are h = let same : ts ≡ rest = cc in subst (λ (r : List Token). TextsAre r × (length r < suc (length ts))) same (are.1, omega arith)
  after_bracket (token.key s ∷ ts) rest are h = cc
  after_bracket (token.string s ∷ ts) rest are h = cc
  after_bracket (token.number s ∷ ts) rest are h = cc
  after_bracket (token.boolean b ∷ ts) rest are h = cc
  after_bracket (token.null ∷ ts) rest are h = cc
  after_bracket (token.bad ∷ ts) rest are h = cc

  -- the end of the array, or an item and more
  step_items : (value : Parse Json) (more : Parse Items) → Reads n (ValueIs n) alone value → Reads n (ItemsAre n) count more → (ts : List Token) (bracket : Option (List Token)) → after_end_array ts ≡ bracket
      → (js : Items) (rest : List Token) → TextsAre ts → length ts ≤ suc n → items_step value more ts bracket ≡ Some (js, rest) → WasRead (ItemsAre n) count ts js rest
  step_items value more one others ts (Some left) is js rest are few h =
      let b = after_bracket ts left are is in
      called (ItemsAre n) count ts (no_items, left) (js, rest) h (record { is = tt; left = b.0; fewer = omega (arith, b.1) })
  step_items value more one others ts None is js rest are few h =
      let p = first (value ts) _ (js, rest) h in
      let m = mapped (item p.0.0) (more p.0.1) js rest p.2 in
      let here = one ts p.0.0 p.0.1 are few p.1 in
      let shorter = here.fewer in
      let there = others p.0.1 m.0 rest here.left (omega arith) m.1 in
      let fewest = there.fewer in
      subst (λ (ks : Items). WasRead (ItemsAre n) count ts ks rest) m.2 (record { is = (here.is, there.is); left = there.left; fewer = omega arith })

  read_items : (value : Parse Json) → Reads n (ValueIs n) alone value → (turns : ℕ) → Reads n (ItemsAre n) count (items value turns)
  unfolding items
  read_items value one zero ts js rest are few h = cc
  read_items value one (suc turns) ts js rest are few h = step_items value (items value turns) one (read_items value one turns) ts (after_end_array ts) refl js rest are few h

  -- ---- objects

  -- the name is a text of the tokens
  abbrev NameIs : Option (List ℕ) → Type 0
  NameIs None = ⊤
  NameIs (Some name) = IsUtf8 name

  named : (ts : List Token) (k : Option (List ℕ)) (rest : List Token) → TextsAre ts → read_key ts ≡ Some (k, rest) → WasRead NameIs alone ts k rest
  named [] k rest are h = cc
  named (token.begin_object ∷ ts) k rest are h = cc
  named (token.end_object ∷ ts) k rest are h = called NameIs alone (token.end_object ∷ ts) (None, ts) (k, rest) h (record { is = tt; left = are.1; fewer = omega arith })
  named (token.begin_array ∷ ts) k rest are h = cc
  named (token.end_array ∷ ts) k rest are h = cc
  named (token.key s ∷ ts) k rest are h = called NameIs alone (token.key s ∷ ts) (Some s, ts) (k, rest) h (record { is = are.0; left = are.1; fewer = omega arith })
  named (token.string s ∷ ts) k rest are h = cc
  named (token.number s ∷ ts) k rest are h = cc
  named (token.boolean b ∷ ts) k rest are h = cc
  named (token.null ∷ ts) k rest are h = cc
  named (token.bad ∷ ts) k rest are h = cc

  -- what is left behind a name: the end of the object, or a member and more
  step_members : (value : Parse Json) (more : Parse Members) → Reads n (ValueIs n) alone value → Reads n (MembersAre n) alone more → (k : Option (List ℕ)) → NameIs k
      → (ts : List Token) (ms : Members) (rest : List Token) → TextsAre ts → length ts ≤ suc n → members_step value more k ts ≡ Some (ms, rest) → MembersAre n ms × TextsAre rest × (length rest ≤ length ts)
  step_members value more one others None name ts ms rest are few h =
      let none = same_value (no_members, ts) (ms, rest) h in
      let same = same_rest (no_members, ts) (ms, rest) h in
      (subst (MembersAre n) none tt, subst (λ (r : List Token). TextsAre r) same are, subst (λ (r : List Token). length r ≤ length ts) same (omega arith))
  step_members value more one others (Some k) name ts ms rest are few h =
      let p = first (value ts) _ (ms, rest) h in
      let m = mapped (member k p.0.0) (more p.0.1) ms rest p.2 in
      let here = one ts p.0.0 p.0.1 are few p.1 in
      let shorter = here.fewer in
      let there = others p.0.1 m.0 rest here.left (omega arith) m.1 in
      let fewest = there.fewer in
      (subst (MembersAre n) m.2 (name, here.is, there.is), there.left, omega arith)

  read_members : (value : Parse Json) → Reads n (ValueIs n) alone value → (turns : ℕ) → Reads n (MembersAre n) alone (members value turns)
  unfolding members
  read_members value one zero ts ms rest are few h = cc
  read_members value one (suc turns) ts ms rest are few h =
      let p = first (read_key ts) _ (ms, rest) h in
      let k = named ts p.0.0 p.0.1 are p.1 in
      let shorter = k.fewer in
      let r = step_members value (members value turns) one (read_members value one turns) p.0.0 k.is p.0.1 ms rest k.left (omega arith) p.2 in
      let shortest = r.2 in
      record { is = r.0; left = r.1; fewer = omega arith }

  -- ---- values

  -- a token is the value
  token_value : (t : Token) (p q : Json × List Token) → Some p ≡ Some q → ValueIs n p.0 → TextsAre p.1 → WasRead (ValueIs n) alone (t ∷ p.1) q.0 q.1
  token_value t p q h is are = called (ValueIs n) alone (t ∷ p.1) p q h (record { is = is; left = are; fewer = omega arith })

  read_with : (a : Parse Items) (o : Parse Members) → Reads n (ItemsAre n) count a → Reads n (MembersAre n) alone o → Reads n (ValueIs n) alone (value_with a o)
  read_with a o items_are members_are [] j rest are few h = cc
  read_with a o items_are members_are (token.begin_object ∷ ts) j rest are few h =
      let m = mapped object (o ts) j rest h in
      let r = members_are ts m.0 rest are.1 (omega arith) m.1 in
      let fewer = r.fewer in
      subst (λ (k : Json). WasRead (ValueIs n) alone (token.begin_object ∷ ts) k rest) m.2 (record { is = r.is; left = r.left; fewer = omega arith })
  read_with a o items_are members_are (token.end_object ∷ ts) j rest are few h = cc
  read_with a o items_are members_are (token.begin_array ∷ ts) j rest are few h =
      let m = mapped array (a ts) j rest h in
      let r = items_are ts m.0 rest are.1 (omega arith) m.1 in
      let fewer = r.fewer in
      subst (λ (k : Json). WasRead (ValueIs n) alone (token.begin_array ∷ ts) k rest) m.2 (record { is = (r.is, omega arith); left = r.left; fewer = omega arith })
  read_with a o items_are members_are (token.end_array ∷ ts) j rest are few h = cc
  read_with a o items_are members_are (token.key s ∷ ts) j rest are few h = cc
  read_with a o items_are members_are (token.string s ∷ ts) j rest are few h = token_value (token.string s) ((string s), ts) (j, rest) h are.0 are.1
  read_with a o items_are members_are (token.number s ∷ ts) j rest are few h = token_value (token.number s) ((number s), ts) (j, rest) h tt are.1
  read_with a o items_are members_are (token.boolean b ∷ ts) j rest are few h = token_value (token.boolean b) ((boolean b), ts) (j, rest) h tt are.1
  read_with a o items_are members_are (token.null ∷ ts) j rest are few h = token_value token.null (null, ts) (j, rest) h tt are.1
  read_with a o items_are members_are (token.bad ∷ ts) j rest are few h = cc

  read_value : (depth : ℕ) → Reads n (ValueIs n) alone (value depth)
  unfolding value
  read_value zero = read_with (λ ts. None) (λ ts. None) (λ ts js rest are few h. cc) (λ ts ms rest are few h. cc)
  read_value (suc depth) =
      read_with (λ ts. items (value depth) (length ts) ts) (λ ts. members (value depth) (length ts) ts)
      (λ ts. read_items (value depth) (read_value depth) (length ts) ts) (λ ts. read_members (value depth) (read_value depth) (length ts) ts)

  last : (j : Json) (ts : List Token) (k : Json) → if_last j ts ≡ Some k → ValueIs n j → ValueIs n k
  last j [] k h is = let same : j ≡ k = cc in subst (ValueIs n) same is
  last j (t ∷ ts) k h is = cc

  -- the value of all tokens
  pub last_value : (depth : ℕ) (ts : List Token) (j : Json) → TextsAre ts → length ts ≤ suc n → option_and_then (λ p. if_last p.0 p.1) (value depth ts) ≡ Some j → ValueIs n j
  last_value depth ts j are few h =
      let p = first (value depth ts) _ j h in
      let r = read_value depth ts p.0.0 p.0.1 are few p.1 in
      last p.0.0 p.0.1 j p.2 r.is
