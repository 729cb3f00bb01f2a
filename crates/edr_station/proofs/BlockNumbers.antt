-- The numbers of blocks.
use Rattle.std.proofs.Common.{◌≡◌, ℕ, zero, suc, ◌+◌, ◌*◌, ◌-◌, ◌/◌, ◌%◌, ◌<◌, ◌≤◌, ◌∷◌, List, [], inl, inr, length, min, take, drop, get_or, sym, ap, ◌∙◌, arith, length-drop}
use Rattle.std.specs.Prelude.{ℤ, Option, None}
use Rattle.std.proofs.Math.Nat.{mul-add, mul_comm, mul-le-mul_left, min_comm}
use Rattle.std.proofs.Math.Seq.{take-add}
use Rattle.std.proofs.lemmas.Nat.{mul-add-lt, same_from_place, div_below, div-add-mod', mod_below}
use Rattle.std.proofs.lemmas.Bool.{cases_order}
use Rattle.std.proofs.lemmas.List.{get_or-take, get_or-drop, length-take}
use Rattle.std.proofs.lemmas.List.Sums.{sum_by-cons, sum_by-append, sum_by_more, sum_by-take-le}
use Rattle.edr_station.specs.Stations.{StationValue, StationsValue, AreStations, values_along, nowhere, station_at}
use Rattle.edr_axes.specs.Axes.{axis_length}
use Rattle.edr_station.specs.Blocks.{blocks_of, blocks, first_block, StationPlace, Within, place_in_series, series_at, value, block_of, place_in_block, cut_block, IsBlock}
use Rattle.edr_station.specs.Shelves.{blocks_in, IsFound}

-- as many for each parameter
pub blocks_scaled : (parameters : ℕ) (stations : List StationValue) → blocks parameters stations ≡ parameters * blocks_in stations
blocks_scaled parameters [] = let e : 0 ≡ parameters * 0 = omega arith in e
blocks_scaled parameters (s ∷ stations) =
    sum_by-cons (λ (x : StationValue). parameters * blocks_of x) s stations
    ∙ (ap (λ n. parameters * blocks_of s + n) (blocks_scaled parameters stations)
    ∙ (sym (mul-add parameters (blocks_of s) (blocks_in stations)) ∙ ap (λ n. parameters * n) (sym (sum_by-cons blocks_of s stations))))

-- more stations have no fewer blocks
before_le : (stations : List StationValue) (low high : ℕ) → low ≤ high → blocks_in (take low stations) ≤ blocks_in (take high stations)
before_le stations low high le =
    let split : high ≡ low + (high - low) = omega arith in
    let e : blocks_in (take high stations) ≡ blocks_in (take low stations) + blocks_in (take (high - low) (drop low stations)) =
    ap (λ n. blocks_in (take n stations)) split
    ∙ (ap blocks_in (take-add low (high - low) stations) ∙ sum_by-append blocks_of (take low stations) (take (high - low) (drop low stations))) in
    omega (arith, e)

-- the number of a block of a parameter of a station, and the first number behind that station's
abbrev pub number_of : ℕ → List StationValue → ℕ → ℕ → ℕ → ℕ
number_of parameters stations station parameter block =
    parameters * blocks_in (take station stations) + parameter * blocks_of (station_at stations station) + block

abbrev pub end_of : ℕ → List StationValue → ℕ → ℕ
end_of parameters stations station = parameters * blocks_in (take (station + 1) stations)

pub number_below_end : (parameters : ℕ) (stations : List StationValue) (station parameter block : ℕ) → station < length stations → parameter < parameters
    → block < blocks_of (station_at stations station) → number_of parameters stations station parameter block < end_of parameters stations station
number_below_end parameters stations station parameter block inside p b =
    let before = blocks_in (take station stations) in
    let here = blocks_of (station_at stations station) in
    let next : parameters * blocks_in (take (station + 1) stations) ≡ parameters * before + parameters * here =
    ap (λ n. parameters * n) (sum_by_more blocks_of stations station nowhere inside) ∙ mul-add parameters before here in
    omega (arith, next, mul-add-lt parameter here block parameters p b, mul_comm here parameters)

pub end_le_first : (parameters : ℕ) (stations : List StationValue) (station other : ℕ) → station < other
    → end_of parameters stations station ≤ parameters * blocks_in (take other stations)
end_le_first parameters stations station other less = mul-le-mul_left parameters (before_le stations (station + 1) other (omega arith))

pub number_below : (parameters : ℕ) (stations : List StationValue) (station parameter block : ℕ) → station < length stations → parameter < parameters
    → block < blocks_of (station_at stations station) → number_of parameters stations station parameter block < parameters * blocks_in stations
number_below parameters stations station parameter block inside p b =
    let last : end_of parameters stations station ≤ parameters * blocks_in stations = mul-le-mul_left parameters (sum_by-take-le blocks_of stations (station + 1)) in
    omega (arith, number_below_end parameters stations station parameter block inside p b, last)

-- numbers tell blocks
pub record AreOne (station parameter block station' parameter' block' : ℕ) : Type 0 where
  pub station_is : station ≡ station'
  pub parameter_is : parameter ≡ parameter'
  pub block_is : block ≡ block'

module _ (parameters : ℕ) (stations : List StationValue) (station parameter block station' parameter' block' : ℕ)
    (inside : station < length stations) (p : parameter < parameters) (b : block < blocks_of (station_at stations station))
    (inside' : station' < length stations) (p' : parameter' < parameters) (b' : block' < blocks_of (station_at stations station'))
    (same : number_of parameters stations station parameter block ≡ number_of parameters stations station' parameter' block') where
  in_one_station : station ≡ station' → AreOne station parameter block station' parameter' block'
  in_one_station e =
      let here = blocks_of (station_at stations station) in
      let there : blocks_of (station_at stations station') ≡ here = ap (λ n. blocks_of (station_at stations n)) (sym e) in
      let first : parameters * blocks_in (take station' stations) ≡ parameters * blocks_in (take station stations) = ap (λ n. parameters * blocks_in (take n stations)) (sym e) in
      let scaled : parameter' * blocks_of (station_at stations station') ≡ parameter' * here = ap (λ n. parameter' * n) there in
      let rest : parameter * here + block ≡ parameter' * here + block' = omega (arith, same, first, scaled) in
      let one = same_from_place parameter block parameter' block' here b (omega (arith, b', there)) rest in
      record { station_is = e; parameter_is = one.0; block_is = one.1 }

  pub numbers_once : AreOne station parameter block station' parameter' block'
  numbers_once = elim (cases_order station station') [
    | inl e ↦ in_one_station e
    | inr (inl less) ↦ absurd (omega (arith, same, number_below_end parameters stations station parameter block inside p b, end_le_first parameters stations station station' less))
    | inr (inr more) ↦ absurd (omega (arith, same, number_below_end parameters stations station' parameter' block' inside' p' b', end_le_first parameters stations station' station more))
  ]

-- ---- the place of a value

pub in_series : (s : StationValue) (time level : ℕ) → time < length s.ts → level < axis_length s.zs → place_in_series s time level < values_along s
in_series s time level t l = omega (arith, mul-add-lt time (axis_length s.zs) level (length s.ts) t l, mul_comm (length s.ts) (axis_length s.zs))

pub in_blocks : (s : StationValue) (time level : ℕ) → time < length s.ts → level < axis_length s.zs → place_in_series s time level / 256 < blocks_of s
in_blocks s time level t l = omega (arith, in_series s time level t l)

-- ---- what the block of a number is

module _ (collection : StationsValue) (stand : AreStations collection) (station parameter block number : ℕ) (values : List (Option ℤ))
    (station_in : station < length collection.stations) (parameter_in : parameter < collection.parameters)
    (block_in : block < blocks_of (station_at collection.stations station))
    (numbered : number_of collection.parameters collection.stations station parameter block ≡ number)
    (cut : values ≡ cut_block block (series_at (station_at collection.stations station) parameter)) where
  numbered_first : first_block collection station + parameter * blocks_of (station_at collection.stations station) + block ≡ number
  numbered_first =
      ap (λ n. n + parameter * blocks_of (station_at collection.stations station) + block) (blocks_scaled collection.parameters (take station collection.stations)) ∙ numbered

  has_long : length (series_at (station_at collection.stations station) parameter) ≡ values_along (station_at collection.stations station)
  has_long =
      let has = (stand.each station nowhere station_in).has in
      has.long parameter [] (omega (arith, has.many, parameter_in))

  long : length values ≡ min (values_along (station_at collection.stations station) - block * 256) 256
  long =
      let series = series_at (station_at collection.stations station) parameter in
      ap (λ (l : List (Option ℤ)). length l) cut
      ∙ (length-take 256 (drop (block * 256) series)
      ∙ (min_comm 256 (length (drop (block * 256) series)) ∙ ap (λ n. min n 256) (length-drop (block * 256) series ∙ ap (λ n. n - block * 256) has_long)))

  one_place : (place : StationPlace) → Within collection place → block_of collection place ≡ number
      → AreOne place.station place.parameter (place_in_series (station_at collection.stations place.station) place.time place.level / 256) station parameter block
  one_place place within same =
      let s = station_at collection.stations place.station in
      let at = place_in_series s place.time place.level / 256 in
      let there : number_of collection.parameters collection.stations place.station place.parameter at ≡ number =
      ap (λ n. n + place.parameter * blocks_of s + at) (sym (blocks_scaled collection.parameters (take place.station collection.stations))) ∙ same in
      numbers_once collection.parameters collection.stations place.station place.parameter at station parameter block within.station within.parameter
      (in_blocks s place.time place.level within.time within.level) station_in parameter_in block_in (there ∙ sym numbered)

  lies : (place : StationPlace) → Within collection place → block_of collection place ≡ number → place_in_block collection place < length values
  lies place within same =
      let s = station_at collection.stations place.station in
      let one = one_place place within same in
      let at = place_in_series s place.time place.level in
      let below : at < values_along s = in_series s place.time place.level within.time within.level in
      let along : values_along s ≡ values_along (station_at collection.stations station) = ap (λ n. values_along (station_at collection.stations n)) one.station_is in
      omega (arith, long, below, along, one.block_is)

  same_value : (place : StationPlace) → Within collection place → block_of collection place ≡ number
      → get_or values (place_in_block collection place) None ≡ value collection place
  same_value place within same =
      let s = station_at collection.stations place.station in
      let one = one_place place within same in
      let at = place_in_series s place.time place.level in
      let series = series_at (station_at collection.stations station) parameter in
      let whole : block * 256 + at % 256 ≡ at = omega (arith, one.block_is) in
      let below : at % 256 < 256 = omega arith in
      ap (λ (l : List (Option ℤ)). get_or l (at % 256) None) cut
      ∙ (get_or-take 256 (drop (block * 256) series) (at % 256) None below
      ∙ (get_or-drop (block * 256) series (at % 256) None
      ∙ (ap (λ n. get_or series n None) whole
      ∙ (ap (λ n. get_or (series_at (station_at collection.stations n) parameter) at None) (sym one.station_is)
      ∙ ap (λ n. get_or (series_at s n) at None) (sym one.parameter_is)))))

  pub block_stands : IsBlock collection number values
  block_stands = record {
    station = station;
    parameter = parameter;
    block = block;
    station_in = station_in;
    parameter_in = parameter_in;
    block_in = block_in;
    numbered = numbered_first;
    long = long;
    cut = cut;
    lies = lies;
    same = same_value;
  }

-- ---- where the block of a number stands

pub record AtNumber (parameters : ℕ) (stations : List StationValue) (number place before here : ℕ) : Type 0 where
  pub rest_in : parameters * before ≤ number
  pub some : 0 < here
  pub parameter_in : (number - parameters * before) / here < parameters
  pub block_in : (number - parameters * before) % here < blocks_of (station_at stations place)
  pub numbered : number_of parameters stations place ((number - parameters * before) / here) ((number - parameters * before) % here) ≡ number

pub at_number : (parameters : ℕ) (stations : List StationValue) (number place before here : ℕ) → 0 < parameters → IsFound stations (number / parameters) place before
    → here ≡ blocks_of (station_at stations place) → AtNumber parameters stations number place before here
at_number parameters stations number place before here some found is =
    let first = number / parameters in
    let ends : first < before + here = omega (arith, found.ends nowhere, is) in
    let split : first * parameters + number % parameters ≡ number = div-add-mod' number parameters in
    let left : number % parameters < parameters = mod_below number parameters some in
    let low : parameters * before ≤ parameters * first = mul-le-mul_left parameters found.begun in
    let turned : first * parameters ≡ parameters * first = mul_comm first parameters in
    let high : parameters * (first + 1) ≤ parameters * (before + here) = mul-le-mul_left parameters (omega arith) in
    let next : parameters * (first + 1) ≡ parameters * first + parameters * 1 = mul-add parameters first 1 in
    let spread : parameters * (before + here) ≡ parameters * before + parameters * here = mul-add parameters before here in
    let some_here : 0 < here = omega (arith, found.begun, ends) in
    let rest = number - parameters * before in
    let rest_below : rest < parameters * here = omega (arith, split, left, low, turned, high, next, spread) in
    let parts : rest / here * here + rest % here ≡ rest = div-add-mod' rest here in
    let scaled : rest / here * here ≡ rest / here * blocks_of (station_at stations place) = ap (λ n. rest / here * n) is in
    let stand : parameters * blocks_in (take place stations) ≡ parameters * before = ap (λ n. parameters * n) (sym found.stand_before) in
    record {
      rest_in = omega (arith, split, low, turned);
      some = some_here;
      parameter_in = div_below rest here parameters some_here rest_below;
      block_in = omega (arith, is, mod_below rest here some_here);
      numbered = omega (arith, split, low, turned, parts, scaled, stand);
    }

-- there are parameters, where there is a number
pub some_parameters : (parameters blocks number : ℕ) → number < parameters * blocks → 0 < parameters
some_parameters zero blocks number h = absurd (omega (arith, h))
some_parameters (suc parameters) blocks number h = omega arith
