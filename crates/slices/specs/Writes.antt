-- What writing over a part of a list leaves. Nothing is written where the part does not fit. Assumes nothing.
use Rattle.std.specs.Prelude.{ℕ, ◌+◌, ◌-◌, cond, ◌&&◌, List, ◌++◌, length, take, drop, replicate, nat_le}
use Rattle.std.specs.List.{between}

-- other items over those from `at` on
abbrev pub written : {T : Type 0} → List T → ℕ → List T → List T
written xs at ys = cond (nat_le (at + length ys) (length xs)) (take at xs ++ (ys ++ drop (at + length ys) xs)) xs

-- `item` from `from` up to `to`
abbrev pub filled : {T : Type 0} → List T → ℕ → ℕ → T → List T
filled xs from to item =
    cond (nat_le from to && nat_le to (length xs)) (take from xs ++ (replicate (to - from) item ++ drop to xs)) xs

-- `width` places at `at` taken out of those before `end`: the later ones move down, and `item` comes last
abbrev pub closed_up : {T : Type 0} → List T → ℕ → ℕ → ℕ → T → List T
closed_up xs at width end item =
    cond (nat_le (at + width) end && nat_le end (length xs)) (take at xs ++ (between (at + width) end xs ++ (replicate width item ++ drop end xs))) xs
