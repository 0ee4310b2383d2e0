-- Each block's table, keyword by keyword.
use Rattle.std.proofs.Common.{◌∙◌, [], refl}
use Rattle.wf_def.specs.Limit.{most_buffer, most_points, most_priority, most_size, most_width}
use Rattle.wf_block.specs.Grammar.{text, whole}
use Rattle.wf_class.specs.Class.{class, class_once, class_put, expression}
use Rattle.wf_class.specs.Color.{color}
use Rattle.wf_class.specs.Label.{label, label_kind, label_kinds, label_position, label_positions, label_put, label_size, label_sizes, truth, truths}
use Rattle.wf_class.specs.Style.{style, style_put}
use Rattle.wf_feature.specs.Feature.{feature, feature_once, feature_put, points}
use Rattle.wf_mapfile.specs.Layer.{features_left, layer, layer_dropped, layer_kind, layer_kinds, layer_name, layer_once, layer_put, new_name, points_left, processing}
use Rattle.wf_mapfile.specs.Map.{extent, map_dropped, map_once, map_put, projection, two_numbers}
use Rattle.wf_mapfile.specs.Metadata.{metadata}
use Rattle.wf_mapfile.specs.Web.{web, web_put}
use Rattle.wf_mapfile.proofs.Taken.{alone, chosen, kept, kept_in_inner_part, kept_in_part, passed, passed_or, unread}
use Rattle.wf_mapfile.proofs.keywords.keywords_of.Goals as goal

pub returns-in-Map : goal.returns-in-Map
unfolding map_put map_once map_dropped
returns-in-Map c = rw c.in-Map.is (record {
  taken = (
    λ t. kept_in_part _ _ (λ x. refl) (λ x. refl) (text t),
    (
      λ t. kept_in_part _ _ (λ x. refl) (λ x. refl) (extent t),
      (
        λ t. kept_in_part _ _ (λ x. refl) (λ x. refl) (projection t),
        (
          λ t. kept_in_part _ _ (λ x. refl) (λ x. refl) (web t),
          (
            λ t. kept _ (λ x. refl) (layer [] t),
            (
              λ t. kept_in_inner_part _ _ _ (λ x. refl) (λ x. refl) (λ x. refl) (two_numbers t),
              (
                λ t. kept_in_inner_part _ _ _ (λ x. refl) (λ x. refl) (λ x. refl) (color t),
                (
                  λ t. kept_in_inner_part _ _ _ (λ x. refl) (λ x. refl) (λ x. refl) (text t),
                  (
                    λ t. kept_in_inner_part _ _ _ (λ x. refl) (λ x. refl) (λ x. refl) (text t),
                    (
                      λ t. kept_in_inner_part _ _ _ (λ x. refl) (λ x. refl) (λ x. refl) (text t),
                      (
                        λ t. kept_in_inner_part _ _ _ (λ x. refl) (λ x. refl) (λ x. refl) (text t),
                        tt,
                      ),
                    ),
                  ),
                ),
              ),
            ),
          ),
        ),
      ),
    ),
  );
  others = λ word tokens none.
      passed_or _ _ _ _ _ none.1.1.1.1.0 (unread _ _ (passed_or _ _ _ _ _ none.0 (passed_or _ _ _ _ _ none.1.0 (passed_or _ _ _ _ _ none.1.1.0 (passed_or _ _ _ _ _ none.1.1.1.0 (unread _ _ (passed _ _ _ _ none.1.1.1.1.1.0 (passed _ _ _ _ none.1.1.1.1.1.1.0 (passed _ _ _ _ none.1.1.1.1.1.1.1.0 (passed _ _ _ _ none.1.1.1.1.1.1.1.1.0 (passed _ _ _ _ none.1.1.1.1.1.1.1.1.1.0 (passed _ _ _ _ none.1.1.1.1.1.1.1.1.1.1.0 refl))))))))))));
})

pub returns-in-Web : goal.returns-in-Web
unfolding web_put
returns-in-Web c = rw c.in-Web.is (record {
  taken = (
    λ t. kept _ (λ x. refl) (metadata t),
    (
      λ t. kept _ (λ x. refl) (text t),
      (
        λ t. kept _ (λ x. refl) (text t),
        tt,
      ),
    ),
  );
  others = λ word tokens none.
      passed _ _ _ _ none.0 (passed _ _ _ _ none.1.0 (passed _ _ _ _ none.1.1.0 refl));
})

pub returns-in-Layer : goal.returns-in-Layer
unfolding layer_put layer_once layer_dropped layer_kind new_name features_left points_left
returns-in-Layer c = rw c.in-Layer.is (record {
  taken = (
    λ t. kept_in_part _ _ (λ x. refl) (λ x. refl) (new_name [] t) ∙ alone (layer_name t),
    (
      λ t. kept_in_part _ _ (λ x. refl) (λ x. refl) (layer_kind t) ∙ chosen layer_kinds t,
      (
        λ t. kept_in_part _ _ (λ x. refl) (λ x. refl) (text t),
        (
          λ t. kept_in_part _ _ (λ x. refl) (λ x. refl) (text t),
          (
            λ t. kept_in_part _ _ (λ x. refl) (λ x. refl) (processing t),
            (
              λ t. kept_in_part _ _ (λ x. refl) (λ x. refl) (metadata t),
              (
                λ t. kept _ (λ x. refl) (class t),
                (
                  λ t. kept _ (λ x. refl) (feature most_points t),
                  (
                    λ t. kept_in_inner_part _ _ _ (λ x. refl) (λ x. refl) (λ x. refl) (text t),
                    (
                      λ t. kept_in_inner_part _ _ _ (λ x. refl) (λ x. refl) (λ x. refl) (text t),
                      (
                        λ t. kept_in_inner_part _ _ _ (λ x. refl) (λ x. refl) (λ x. refl) (text t),
                        tt,
                      ),
                    ),
                  ),
                ),
              ),
            ),
          ),
        ),
      ),
    ),
  );
  others = λ word tokens none.
      passed_or _ _ _ _ _ none.1.1.1.1.1.1.0 (passed_or _ _ _ _ _ none.1.1.1.1.1.1.1.0 (unread _ _ (passed_or _ _ _ _ _ none.0 (passed_or _ _ _ _ _ none.1.0 (passed_or _ _ _ _ _ none.1.1.0 (passed_or _ _ _ _ _ none.1.1.1.0 (passed_or _ _ _ _ _ none.1.1.1.1.0 (passed_or _ _ _ _ _ none.1.1.1.1.1.0 (unread _ _ (passed _ _ _ _ none.1.1.1.1.1.1.1.1.0 (passed _ _ _ _ none.1.1.1.1.1.1.1.1.1.0 (passed _ _ _ _ none.1.1.1.1.1.1.1.1.1.1.0 refl))))))))))));
})

pub returns-in-Class : goal.returns-in-Class
unfolding class_put class_once
returns-in-Class c = rw c.in-Class.is (record {
  taken = (
    λ t. kept_in_part _ _ (λ x. refl) (λ x. refl) (text t),
    (
      λ t. kept_in_part _ _ (λ x. refl) (λ x. refl) (expression t),
      (
        λ t. kept _ (λ x. refl) (style t),
        (
          λ t. kept_in_part _ _ (λ x. refl) (λ x. refl) (label t),
          tt,
        ),
      ),
    ),
  );
  others = λ word tokens none.
      passed_or _ _ _ _ _ none.1.1.0 (unread _ _ (passed _ _ _ _ none.0 (passed _ _ _ _ none.1.0 (passed _ _ _ _ none.1.1.1.0 refl))));
})

pub returns-in-Style : goal.returns-in-Style
unfolding style_put
returns-in-Style c = rw c.in-Style.is (record {
  taken = (
    λ t. kept _ (λ x. refl) (color t),
    (
      λ t. kept _ (λ x. refl) (color t),
      (
        λ t. kept _ (λ x. refl) (whole 1 most_width t),
        (
          λ t. kept _ (λ x. refl) (whole 1 most_size t),
          tt,
        ),
      ),
    ),
  );
  others = λ word tokens none.
      passed _ _ _ _ none.0 (passed _ _ _ _ none.1.0 (passed _ _ _ _ none.1.1.0 (passed _ _ _ _ none.1.1.1.0 refl)));
})

pub returns-in-Label : goal.returns-in-Label
unfolding label_put label_size label_position truth label_kind
returns-in-Label c = rw c.in-Label.is (record {
  taken = (
    λ t. kept _ (λ x. refl) (color t),
    (
      λ t. kept _ (λ x. refl) (label_size t) ∙ chosen label_sizes t,
      (
        λ t. kept _ (λ x. refl) (label_position t) ∙ chosen label_positions t,
        (
          λ t. kept _ (λ x. refl) (whole 1 most_priority t),
          (
            λ t. kept _ (λ x. refl) (truth t) ∙ chosen truths t,
            (
              λ t. kept _ (λ x. refl) (whole 0 most_buffer t),
              (
                λ t. kept _ (λ x. refl) (label_kind t) ∙ chosen label_kinds t,
                tt,
              ),
            ),
          ),
        ),
      ),
    ),
  );
  others = λ word tokens none.
      passed _ _ _ _ none.0 (passed _ _ _ _ none.1.0 (passed _ _ _ _ none.1.1.0 (passed _ _ _ _ none.1.1.1.0 (passed _ _ _ _ none.1.1.1.1.0 (passed _ _ _ _ none.1.1.1.1.1.0 (passed _ _ _ _ none.1.1.1.1.1.1.0 refl))))));
})

pub returns-in-Feature : goal.returns-in-Feature
unfolding feature_put feature_once
returns-in-Feature c = rw c.in-Feature.is (record {
  taken = (
    λ t. kept _ (λ x. refl) (points most_points t),
    (
      λ t. kept_in_part _ _ (λ x. refl) (λ x. refl) (text t),
      (
        λ t. kept_in_part _ _ (λ x. refl) (λ x. refl) (text t),
        tt,
      ),
    ),
  );
  others = λ word tokens none.
      passed_or _ _ _ _ _ none.0 (unread _ _ (passed _ _ _ _ none.1.0 (passed _ _ _ _ none.1.1.0 refl)));
})

pub returns-in-Projection : goal.returns-in-Projection
returns-in-Projection c = rw c.in-Projection.is refl

pub returns-in-Metadata : goal.returns-in-Metadata
returns-in-Metadata c = rw c.in-Metadata.is refl

pub returns-in-Points : goal.returns-in-Points
returns-in-Points c = rw c.in-Points.is refl
