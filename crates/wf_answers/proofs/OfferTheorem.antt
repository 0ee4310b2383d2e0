-- The metadata of a map states its offer, and GetMap's checks take exactly that.
use Rattle.std.proofs.Common.{◌≡◌, ◌∙◌, ap, ap₂, sym, ℕ, ◌+◌, ◌==◌, ◌&&◌, ◌||◌, Bool, true, false, not, List, [], ◌∷◌, ◌++◌, length, map, refl, arith, append-nil, bytes_eq, codes, flat_map, position, cond, is_none, nat_le, nat_lt, suc, is_ok, ok_or}
use Rattle.std.specs.Prelude.{Option, Some, None, Result, Ok, Err, if◌then◌else◌}
use Rattle.std.specs.List.{filter_map, list_all, list_any, position_or_len, prefix_len}
use Rattle.std.proofs.lemmas.Bool.Decides.{nat_tests}
use Rattle.wf_answers.specs.Offer.{EachOfferIsTaken, MetadataIsTheOffer, RequestsWithinTheOfferAreTaken, are_layers, are_styles, asks_for_layers, asks_for_picture, has, is_layer, is_pixels, is_style_of, is_system, layer_of_style, layers_of, may_have, metadata_of, offer, requests_of, service_of, style_end, system_box, system_line, systems_of, titled}
use Rattle.wf_def.specs.Definition.{Definition, LayerDefinition}
use Rattle.wf_def.specs.Extent.{ExtentValue}
use Rattle.wf_def.specs.Limits.{layer_names}
use Rattle.wf_def.specs.declared.choice.Projection.{Projection}
use Rattle.wf_def.specs.declared.choice.Projection.TheVariants.{Epsg4326, Epsg3857}
use Rattle.wf_wms.specs.Background.{background_in}
use Rattle.wf_wms.specs.Capabilities.{box_line, box_lines, capabilities, crs_line, crs_lines, element, layer_line, layers, requests, service}
use Rattle.wf_wms.specs.MapRequest.{◌>>=◌, axes_in, box_in, check_format, check_layers, check_style_list, check_styles, entries, is_style, layer_of, layers_in, listed_names, map_request, map_sequence, named_layers, none_or, passed_or, picture_in, picture_size, request_in, size_in, styled_layers}
use Rattle.wf_wms.specs.Query.{parameter}
use Rattle.wf_wms.specs.Xml.{line}
use Rattle.wf_wms.specs.declared.exception.Exception.{Exception}
use Rattle.wf_wms.specs.declared.exception.Exception.TheVariants as exception
use Rattle.wf_wms.specs.declared.exception.Parameter.{Parameter}
use Rattle.wf_wms.specs.declared.exception.Parameter.TheVariants as parameters

-- ---- the metadata

stated_service : (d : Definition) → service d ≡ service_of (offer d) d
unfolding service service_of offer
stated_service d = refl

stated_requests : (d : Definition) → requests d ≡ requests_of (offer d) d
unfolding requests requests_of offer
stated_requests d = refl

stated_systems : (projection : Projection) → crs_lines projection ≡ flat_map system_line (systems_of projection)
unfolding crs_lines
stated_systems Epsg4326 = ap (λ (l : List ℕ). crs_line (codes "EPSG:4326") ++ l) (sym (append-nil (crs_line (codes "CRS:84"))))
stated_systems Epsg3857 = sym (append-nil (crs_line (codes "EPSG:3857")))

stated_boxes : (projection : Projection) (e : ExtentValue) → box_lines projection e ≡ flat_map (system_box e) (systems_of projection)
unfolding box_lines
stated_boxes Epsg4326 e =
    ap (λ (l : List ℕ). box_line (codes "EPSG:4326") e.miny e.minx e.maxy e.maxx ++ l) (sym (append-nil (box_line (codes "CRS:84") e.minx e.miny e.maxx e.maxy)))
stated_boxes Epsg3857 e = sym (append-nil (box_line (codes "EPSG:3857") e.minx e.miny e.maxx e.maxy))

ended : codes "<Style><Name>default</Name><Title>default</Title></Style></Layer>" ≡ style_end (codes "default")
unfolding style_end
ended = refl

stated_layer : (layer : List ℕ × LayerDefinition) → layer_line layer ≡ layer_of_style (codes "default") (titled layer)
unfolding layer_line
stated_layer layer =
    ap (λ (end : List ℕ). line (codes "<Layer queryable=\"0\">" ++ element (codes "Name") layer.0 ++ element (codes "Title") layer.1.title ++ end)) ended

stated_layers : (layers : List (List ℕ × LayerDefinition)) → flat_map layer_line layers ≡ flat_map (layer_of_style (codes "default")) (map titled layers)
stated_layers [] = refl
stated_layers (layer ∷ layers) = ap₂ (λ (first rest : List ℕ). first ++ rest) (stated_layer layer) (stated_layers layers)

stated_tree : (d : Definition) → layers d ≡ layers_of (offer d) d
unfolding layers layers_of offer
stated_tree d = rw (stated_systems d.projection, stated_boxes d.projection d.extent, stated_layers d.layers) refl

pub stated : MetadataIsTheOffer
unfolding capabilities metadata_of
stated s d = rw (stated_service d, stated_requests d, stated_tree d) refl

-- ---- checks that pass

passes : (e : Exception) (test : Bool) → is_ok (passed_or e test) ≡ test
passes e true = refl
passes e false = refl

none_passes : (at : ℕ → Exception) (found : Option ℕ) → is_ok (none_or at found) ≡ is_none found
none_passes at None = refl
none_passes at (Some i) = refl

bound : {A B : Type 0} (first : Result A Exception) (next : A → Result B Exception) (one other : Bool) → is_ok first ≡ one →
    ((x : A) → is_ok (next x) ≡ other) → is_ok (first >>= next) ≡ (one && other)
bound (Ok x) next one other is follows = follows x ∙ ap (λ b. b && other) is
bound (Err e) next one other is follows = ap (λ b. b && other) is

then_returned : {A B : Type 0} (first : Result A Exception) (value : A → B) → is_ok (first >>= λ x. Ok (value x)) ≡ is_ok first
then_returned (Ok x) value = refl
then_returned (Err e) value = refl

-- ---- lists

all_alike : {A : Type 0} (p q : A → Bool) → ((x : A) → p x ≡ q x) → (xs : List A) → list_all p xs ≡ list_all q xs
all_alike p q alike [] = refl
all_alike p q alike (x ∷ xs) = ap₂ (λ (a b : Bool). a && b) (alike x) (all_alike p q alike xs)

-- nothing is found where none passes
no_index : (i n : ℕ) → is_none (cond (nat_lt i n) (Some i) None) ≡ not (nat_lt i n)
no_index i n = by_test (nat_lt i n) where
  by_test : (t : Bool) → is_none (cond t (Some i) None) ≡ not t
  by_test true = refl
  by_test false = refl

next : (a n : ℕ) (test : Bool) → nat_lt a n ≡ test → nat_lt (1 + a) (suc n) ≡ test
next a n true is = grind (arith, nat_tests)
next a n false is = grind (arith, nat_tests)

zero_below : (n : ℕ) → nat_lt 0 (suc n) ≡ true
zero_below n = grind (arith, nat_tests)

whole : {A : Type 0} (q : A → Bool) (xs : List A) → not (nat_lt (prefix_len q xs) (length xs)) ≡ list_all q xs
whole q [] = refl
whole q (x ∷ xs) = by (q x) (whole q xs) where
  by : (test : Bool) → not (nat_lt (prefix_len q xs) (length xs)) ≡ list_all q xs →
      not (nat_lt (cond test (1 + prefix_len q xs) 0) (length (x ∷ xs))) ≡ (test && list_all q xs)
  by true rest = ap not (next (prefix_len q xs) (length xs) (nat_lt (prefix_len q xs) (length xs)) refl) ∙ rest
  by false rest = ap not (zero_below (length xs))

not_found : {A : Type 0} (p : A → Bool) (xs : List A) → is_none (position p xs) ≡ list_all (λ x. not (p x)) xs
not_found p xs = no_index (position_or_len p xs) (length xs) ∙ whole (λ x. not (p x)) xs

one_more : (a b c : Bool) → not b ≡ c → not (not a && b) ≡ (a || c)
one_more true b c is = refl
one_more false b c is = is

-- ---- layers

named : (name : List ℕ) (layers : List (List ℕ × LayerDefinition)) →
    not (list_all (λ known. not (bytes_eq name known)) (layer_names layers)) ≡ list_any (λ layer. bytes_eq name layer.0) (map titled layers)
named name [] = refl
named name (layer ∷ layers) = one_more (bytes_eq name layer.0) _ _ (named name layers)

known : (d : Definition) (name : List ℕ) → not (is_none (layer_of d name)) ≡ is_layer (offer d) name
unfolding layer_of offer
known d name = ap not (not_found (bytes_eq name) (layer_names d.layers)) ∙ named name d.layers

layers_taken : (d : Definition) (names : List (List ℕ)) → is_ok (check_layers d names) ≡ are_layers (offer d) names
unfolding check_layers offer
layers_taken d names =
    bound (passed_or (exception.BadValue parameters.Layers) (nat_le (length names) 64))
    (λ passed. none_or exception.LayerNotDefined (position (λ name. is_none (layer_of d name)) names))
    (nat_le (length names) 64) (list_all (is_layer (offer d)) names)
    (passes (exception.BadValue parameters.Layers) (nat_le (length names) 64)) (λ passed.
    none_passes exception.LayerNotDefined (position (λ name. is_none (layer_of d name)) names) ∙ not_found (λ name. is_none (layer_of d name)) names ∙ all_alike (λ name. not (is_none (layer_of d name))) (is_layer (offer d)) (known d) names)

-- ---- styles

style : (name : List ℕ) → not (not (is_style name)) ≡ (bytes_eq name [] || bytes_eq name (codes "default"))
style [] = refl
style (byte ∷ bytes) = twice (bytes_eq (byte ∷ bytes) (codes "default")) where
  twice : (t : Bool) → not (not t) ≡ t
  twice true = refl
  twice false = refl

styles_taken : (d : Definition) (count : ℕ) (text : List ℕ) → is_ok (check_styles count (Some text)) ≡ are_styles (offer d) count (entries text)
unfolding check_style_list offer
styles_taken d count text =
    bound (passed_or (exception.BadValue parameters.Styles) (length (entries text) == count))
    (λ passed. none_or exception.StyleNotDefined (position (λ name. not (is_style name)) (entries text)))
    (length (entries text) == count) (list_all (is_style_of (offer d)) (entries text))
    (passes (exception.BadValue parameters.Styles) (length (entries text) == count)) (λ passed.
    none_passes exception.StyleNotDefined (position (λ name. not (is_style name)) (entries text)) ∙ not_found (λ name. not (is_style name)) (entries text) ∙ all_alike (λ name. not (not (is_style name))) (is_style_of (offer d)) style (entries text))

-- ---- sizes, reference systems

if_passes : {A : Type 0} (test : Bool) (x : A) (e : Exception) → is_ok (if test then Ok x else Err e) ≡ test
if_passes true x e = refl
if_passes false x e = refl

one_of_two : {A : Type 0} (x y : A) (e : Exception) (first second : Bool) →
    is_ok (if first then Ok x else (if second then Ok y else Err e)) ≡ (first || (second || false))
one_of_two x y e true second = refl
one_of_two x y e false true = refl
one_of_two x y e false false = refl

only_one : {A : Type 0} (x : A) (e : Exception) (first : Bool) → is_ok (if first then Ok x else Err e) ≡ (first || false)
only_one x e true = refl
only_one x e false = refl

systems_taken : (projection : Projection) (text : List ℕ) →
    is_ok (axes_in projection (Some text)) ≡ list_any (λ system. bytes_eq text system.0) (systems_of projection)
systems_taken Epsg4326 text = one_of_two _ _ exception.InvalidCrs (bytes_eq text (codes "EPSG:4326")) (bytes_eq text (codes "CRS:84"))
systems_taken Epsg3857 text = only_one _ exception.InvalidCrs (bytes_eq text (codes "EPSG:3857"))

pub taken : EachOfferIsTaken
unfolding offer
taken d = record {
  format = λ text. passes exception.InvalidFormat (bytes_eq text (codes "image/x-portable-pixmap"));
  system = λ text. systems_taken d.projection text;
  layers = λ names. layers_taken d names;
  styles = λ count text. styles_taken d count text;
  no_styles = λ count. refl;
  width = λ name text. if_passes (is_pixels 1024 text) _ _;
  height = λ name text. if_passes (is_pixels 1024 text) _ _;
}

-- ---- a whole request

listed : {A : Type 0} (test : Bool) (value : Option (List ℕ)) (e : Exception) (next : List ℕ → Result A Exception) (passes : List ℕ → Bool) →
    ((names : List ℕ) → is_ok (next names) ≡ passes names) →
    is_ok ((passed_or exception.InvalidFormat test >>= λ _. ok_or value e) >>= next) ≡ (test && has value passes)
listed true None e next passes follows = refl
listed true (Some names) e next passes follows = follows names
listed false value e next passes follows = refl

formatted : {A : Type 0} (format value : Option (List ℕ)) (e : Exception) (next : List ℕ → Result A Exception) (passes : List ℕ → Bool) →
    ((names : List ℕ) → is_ok (next names) ≡ passes names) →
    is_ok ((check_format format >>= λ _. ok_or value e) >>= next) ≡ (has format (λ text. bytes_eq text (codes "image/x-portable-pixmap")) && has value passes)
formatted None value e next passes follows = refl
formatted (Some text) value e next passes follows = listed (bytes_eq text (codes "image/x-portable-pixmap")) value e next passes follows

may_be_styled : (d : Definition) (count : ℕ) (styles : Option (List ℕ)) →
    is_ok (check_styles count styles) ≡ may_have styles (λ text. are_styles (offer d) count (entries text))
may_be_styled d count None = refl
may_be_styled d count (Some text) = styles_taken d count text

styled : (d : Definition) (names : List (List ℕ)) (styles : Option (List ℕ)) →
    is_ok (styled_layers d names styles) ≡ (are_layers (offer d) names && may_have styles (λ text. are_styles (offer d) (length names) (entries text)))
unfolding styled_layers named_layers
styled d names styles =
    bound (check_layers d names >>= λ passed. Ok (filter_map (layer_of d) names)) (λ indices. check_styles (length names) styles >>= λ passed. Ok indices)
    (are_layers (offer d) names) (may_have styles (λ text. are_styles (offer d) (length names) (entries text)))
    (then_returned (check_layers d names) (λ passed. filter_map (layer_of d) names) ∙ layers_taken d names) (λ indices.
    then_returned (check_styles (length names) styles) (λ passed. indices) ∙ may_be_styled d (length names) styles)

layers_asked : (d : Definition) (pairs : List (List ℕ × List ℕ)) → is_ok (layers_in d pairs) ≡ asks_for_layers (offer d) pairs
unfolding layers_in listed_names offer
layers_asked d pairs =
    formatted (parameter (codes "FORMAT") pairs) (parameter (codes "LAYERS") pairs) (exception.MissingParameter parameters.Layers)
    (λ names. styled_layers d (entries names) (parameter (codes "STYLES") pairs))
    (λ text. are_layers (offer d) (entries text)
    && may_have (parameter (codes "STYLES") pairs) (λ styles. are_styles (offer d) (length (entries text)) (entries styles)))
    (λ names. styled d (entries names) (parameter (codes "STYLES") pairs))

system_asked : (projection : Projection) (crs : Option (List ℕ)) →
    is_ok (axes_in projection crs) ≡ has crs (λ text. list_any (λ system. bytes_eq text system.0) (systems_of projection))
system_asked projection None = refl
system_asked projection (Some text) = systems_taken projection text

pixels_asked : (name : Parameter) (value : Option (List ℕ)) → is_ok (size_in name value) ≡ has value (is_pixels 1024)
pixels_asked name None = refl
pixels_asked name (Some text) = if_passes (is_pixels 1024 text) _ _

size_asked : (pairs : List (List ℕ × List ℕ)) → is_ok (picture_size pairs) ≡
    (has (parameter (codes "WIDTH") pairs) (is_pixels 1024) && has (parameter (codes "HEIGHT") pairs) (is_pixels 1024))
unfolding picture_size
size_asked pairs =
    bound (size_in parameters.Width (parameter (codes "WIDTH") pairs)) _
    (has (parameter (codes "WIDTH") pairs) (is_pixels 1024)) (has (parameter (codes "HEIGHT") pairs) (is_pixels 1024))
    (pixels_asked parameters.Width (parameter (codes "WIDTH") pairs)) (λ width.
    then_returned (size_in parameters.Height (parameter (codes "HEIGHT") pairs)) _ ∙ pixels_asked parameters.Height (parameter (codes "HEIGHT") pairs))

-- two checks, of which the second takes what the first returns
bound_twice : {A B C : Type 0} (first : Result A Exception) (second : A → Result B Exception) (next : A → B → Result C Exception) (one other : Bool) →
    is_ok first ≡ one → ((x : A) (y : B) → is_ok (next x y) ≡ other) →
    is_ok (first >>= λ x. second x >>= next x) ≡ (one && (is_ok (first >>= second) && other))
bound_twice (Ok x) second next one other is follows =
    bound (second x) (next x) (is_ok (second x)) other refl (follows x) ∙ ap (λ b. b && (is_ok (second x) && other)) is
bound_twice (Err e) second next one other is follows = ap (λ b. b && (false && other)) is

picture_asked : (d : Definition) (pairs : List (List ℕ × List ℕ)) (indices : List ℕ) →
    is_ok (request_in indices d.projection pairs) ≡ asks_for_picture (offer d) d.projection pairs
unfolding request_in offer
picture_asked d pairs indices =
    bound_twice (axes_in d.projection (parameter (codes "CRS") pairs)) (λ axes. box_in axes (parameter (codes "BBOX") pairs)) _
    (has (parameter (codes "CRS") pairs) (is_system (offer d)))
    ((has (parameter (codes "WIDTH") pairs) (is_pixels 1024) && has (parameter (codes "HEIGHT") pairs) (is_pixels 1024))
    && is_ok (background_in (parameter (codes "BGCOLOR") pairs)))
    (system_asked d.projection (parameter (codes "CRS") pairs)) (λ axes box.
    bound (picture_size pairs) _
    (has (parameter (codes "WIDTH") pairs) (is_pixels 1024) && has (parameter (codes "HEIGHT") pairs) (is_pixels 1024))
    (is_ok (background_in (parameter (codes "BGCOLOR") pairs))) (size_asked pairs) (λ size.
    then_returned (background_in (parameter (codes "BGCOLOR") pairs)) _))

from_sequence : {A : Type 0} (sequence : Result ℕ Exception) (next : Result A Exception) → is_ok sequence ≡ true → is_ok (sequence >>= λ _. next) ≡ is_ok next
from_sequence (Ok m) next is = refl
from_sequence (Err e) next is = absurd (let impossible : ⊥ = cc in impossible)

pub taken_whole : RequestsWithinTheOfferAreTaken
unfolding map_request picture_in
taken_whole s d pairs accepted =
    from_sequence (map_sequence s pairs) _ accepted
    ∙ bound (layers_in d pairs) _ (asks_for_layers (offer d) pairs) (asks_for_picture (offer d) d.projection pairs) (layers_asked d pairs) (λ indices. picture_asked d pairs indices)
