-- For each net the least net that pairs join it with, and from these the islands by their numbers.
use Rattle.std.specs.Prelude.{◌≡◌, ◌<◌, ℕ, ◌==◌, min, max, List, length, map, take, slice_index, if◌then◌else◌}
use Rattle.std.specs.List.{All, fold, filter, count_by, range_with_len}

-- one more pair: of the least nets of its two nets the greater gives way to the lesser
abbrev pub join : List ℕ → ℕ × ℕ → List ℕ
join leasts pair =
    let a = slice_index leasts pair.0 in
    let b = slice_index leasts pair.1 in
    map (λ least. if least == max a b then min a b else least) leasts

-- for each net the least net that the pairs join it with, over any number of steps
abbrev pub leasts : ℕ → List (ℕ × ℕ) → List ℕ
leasts count pairs = fold join (range_with_len 0 count) pairs

-- the nets below this number that are the least of their islands
abbrev pub roots : List ℕ → ℕ → List ℕ
roots least number = filter (λ net. slice_index least net == net) (range_with_len 0 number)

-- each number is below the length and stands at its own place
abbrev pub AreRoots : List ℕ → Type 0
AreRoots least = All (λ root. (root < length least) × (slice_index least root ≡ root)) least

-- for each number below the count how many roots stand below it
abbrev pub root_counts : List ℕ → ℕ → List ℕ
root_counts least count = map (λ number. length (roots least number)) (range_with_len 0 count)

-- how many islands the nets stand in
abbrev pub island_count : List ℕ → ℕ
island_count least = length (roots least (length least))

-- for each net the number of its island: islands stand in the order of their least nets
abbrev pub island_numbers : List ℕ → List ℕ
island_numbers least = map (λ net. length (roots least net)) least

-- the place of a net in its island: how many nets before it stand there
abbrev pub place : List ℕ → ℕ → ℕ
place numbers net = count_by (λ number. number == slice_index numbers net) (take net numbers)

-- for each net its place in its island
abbrev pub places : List ℕ → List ℕ
places numbers = map (place numbers) (range_with_len 0 (length numbers))
