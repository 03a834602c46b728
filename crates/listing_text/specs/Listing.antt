-- To be believed. What the listing program prints for an input. Document 01: "The listing program reads width and height (two bytes each, little-endian) and
-- gray bytes from standard input; under 4 bytes is 4, then come 1, 2, 5 for over 40,000 pixels, and 4 for too few gray bytes; extra bytes are ignored. It
-- runs the chain on `Gray8` and prints `refused N`, or width, height, finder count, detection count; a line per finder (x, y, module as eight hexadecimal
-- digits, confirmations in decimal); a line per detection (version, alignment x and y or `-`, eight transform numbers of sixteen hexadecimal digits)."
-- Document 02, N8: "The listing's detection line ends with both", score and mean module, "eight hexadecimal digits each".
use Rattle.std.specs.Prelude.{ℕ, ◌+◌, ◌*◌, cond, List, [], ◌∷◌, ◌++◌, ltb, length, take, drop, get_or, Float, Option, Some, None, Result, Ok, Err}
use Rattle.std.specs.Float.{nan}
use Rattle.lists.specs.Lists.{tabulate, flat_map}
use Rattle.little_endian.specs.Bytes.{read_le}
use Rattle.lcr_core.specs.Outcome.{Check, refusal_number, first_of, if_refused, side_checks}
use Rattle.lcr_core.specs.declared.Refusal.{Refusal}
use Rattle.lcr_core.specs.declared.Refusal.TheVariants.{ShortPicture, ShortOutput}
use Rattle.gray.specs.declared.format.PixelFormat.TheVariants.{Gray8}
use Rattle.gray.specs.Gray.{channels_of}
use Rattle.lcr_core.specs.declared.finder.Finder.{Finder}
use Rattle.finders.specs.Search.{max_finders}
use Rattle.finders.specs.Answer.{finders_of}
use Rattle.candidates.specs.declared.Detection.{Detection}
use Rattle.candidates.specs.declared.Detections.{Detections}
use Rattle.stages.specs.Pictures.{as_picture, denoised_picture}
use Rattle.chain.specs.Chain.{chain_of}
use Rattle.listing_text.specs.Text.{decimal_text, single_text, double_text, dash, line_text}
use Rattle.lcr_core.specs.declared.point.Point.{Point}

-- ---- the input
-- the width: its first two bytes
abbrev pub width_of : List ℕ → ℕ
width_of input = read_le 2 input 0

-- the height: the next two
abbrev pub height_of : List ℕ → ℕ
height_of input = read_le 2 input 2

-- the gray bytes, with the extra bytes behind them
abbrev pub gray_bytes : List ℕ → List ℕ
gray_bytes input = drop 4 input

-- the most pixels
abbrev pub max_pixels : ℕ
max_pixels = 40000

-- what is refused of an input: 4, 1, 2, 5 and 4, in this order
abbrev pub listing_checks : List ℕ → List Check
listing_checks input =
    let w = width_of input in
    let h = height_of input in
    record { refuses = ltb (length input) 4; refusal = ShortPicture }
    ∷ (side_checks w h
    ++ (record { refuses = ltb max_pixels (w * h); refusal = ShortOutput }
    ∷ record { refuses = ltb (length (gray_bytes input)) (w * h); refusal = ShortPicture }
    ∷ []))

-- the number of the first that refuses
unfoldable pub listing_refusal : List ℕ → ℕ
listing_refusal input = first_of (listing_checks input)

-- ---- lines
-- `refused`
abbrev pub refused_word : List ℕ
refused_word = 114 ∷ 101 ∷ 102 ∷ 117 ∷ 115 ∷ 101 ∷ 100 ∷ []

-- `refused N`
unfoldable pub refused_line : ℕ → List ℕ
refused_line n = line_text (refused_word ∷ decimal_text n ∷ [])

-- width, height, finder count, detection count
unfoldable pub head_line : ℕ → ℕ → ℕ → ℕ → List ℕ
head_line w h finders detections = line_text (decimal_text w ∷ decimal_text h ∷ decimal_text finders ∷ decimal_text detections ∷ [])

-- a finder: x, y, module, confirmations
unfoldable pub finder_line : Finder → List ℕ
finder_line f = line_text (single_text f.x ∷ single_text f.y ∷ single_text f.«module» ∷ decimal_text f.confirmations ∷ [])

-- the alignment marker: x and y, or `-`
unfoldable pub marker_fields : Option Point → List (List ℕ)
marker_fields (Some p) = single_text p.x ∷ single_text p.y ∷ []
marker_fields None = dash ∷ []

-- the eight transform numbers; document 02, N12: "The listing prints the eight numbers only", no lens terms
unfoldable pub number_fields : List Float → List (List ℕ)
number_fields m = tabulate 8 (λ i. double_text (get_or m i nan))

-- a detection: version, marker, transform numbers, score, mean module
unfoldable pub detection_line : Detection → List ℕ
detection_line d =
    line_text (decimal_text d.version.0 ∷ (marker_fields d.marker ++ (number_fields d.transform.m ++ (single_text d.score ∷ single_text d.mean ∷ []))))

-- ---- the text
-- the head line, a line per finder and a line per detection
unfoldable pub list_text : ℕ → ℕ → List Finder → List Detection → List ℕ
list_text w h fs ds = head_line w h (length fs) (length ds) ++ (flat_map finder_line fs ++ flat_map detection_line ds)

-- the detections that a table holds
abbrev pub detections_in : Detections → List Detection
detections_in t = take t.count t.at

-- of a picture with the finders fs and the chain's answer: `refused N`, or the finders and the answer's detections
unfoldable pub answer_text : ℕ → ℕ → List Finder → Result Detections Refusal → List ℕ
answer_text w h fs (Ok t) = list_text w h fs (detections_in t)
answer_text w h fs (Err refusal) = refused_line (refusal_number refusal)

-- the chain on `Gray8`, p the picture in rows of w bytes: the finders are those of the denoised bits, in which the chain looks for its detections
unfoldable pub chain_text : List ℕ → ℕ → ℕ → List ℕ
chain_text p w h =
    let g = as_picture p w h w (channels_of Gray8) in
    answer_text w h (finders_of (denoised_picture g) w h) (chain_of g)

-- every character that is printed for an input
unfoldable pub listing_of : List ℕ → List ℕ
listing_of input =
    let n = listing_refusal input in
    if_refused n (refused_line n) (chain_text (gray_bytes input) (width_of input) (height_of input))

-- ---- the room
-- for a number and the character after it: a decimal of twenty digits, an f32, an f64
abbrev pub decimal_room : ℕ
decimal_room = 21

abbrev pub single_room : ℕ
single_room = 9

abbrev pub double_room : ℕ
double_room = 17

-- characters that no head line exceeds, nor a refusal
abbrev pub head_room : ℕ
head_room = 4 * decimal_room

-- that no finder's line does
abbrev pub finder_room : ℕ
finder_room = 3 * single_room + decimal_room

-- that no detection's line does: version, marker, transform numbers, score and mean module
abbrev pub detection_room : ℕ
detection_room = decimal_room + 2 * single_room + 8 * double_room + 2 * single_room

-- that no listing does: the head line, a line for each finder there can be and one for each of three detections
abbrev pub listing_room : ℕ
listing_room = head_room + finder_room * max_finders + detection_room * 3

-- how many characters are written into room for so many: all, or none where there is less room than for every listing
unfoldable pub written_in : ℕ → List ℕ → ℕ
written_in room text = cond (ltb room listing_room) 0 (length text)
