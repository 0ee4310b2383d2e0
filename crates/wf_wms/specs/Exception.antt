-- Service exceptions in XML: OGC 06-042, 6.11, the codes of table E.1 and the layout of annex E.2.
use Rattle.std.specs.Prelude.{ℕ, List, [], ◌++◌, codes, decimal, Option, Some, None}
use Rattle.wf_wms.specs.Xml.{line}
use Rattle.wf_wms.specs.declared.exception.Parameter.{Parameter}
use Rattle.wf_wms.specs.declared.exception.Parameter.TheVariants as parameter
use Rattle.wf_wms.specs.declared.exception.Exception.{Exception}
use Rattle.wf_wms.specs.declared.exception.Exception.TheVariants as exception

-- a parameter's name, in capitals
abbrev pub name_of : Parameter → List ℕ
name_of parameter.Request = codes "REQUEST"
name_of parameter.Service = codes "SERVICE"
name_of parameter.Version = codes "VERSION"
name_of parameter.UpdateSequence = codes "UPDATESEQUENCE"
name_of parameter.MapSequence = codes "MAPSEQ"
name_of parameter.Format = codes "FORMAT"
name_of parameter.Layers = codes "LAYERS"
name_of parameter.Styles = codes "STYLES"
name_of parameter.Crs = codes "CRS"
name_of parameter.Bbox = codes "BBOX"
name_of parameter.Width = codes "WIDTH"
name_of parameter.Height = codes "HEIGHT"
name_of parameter.BackgroundColor = codes "BGCOLOR"

-- the standard's code of an exception, if it has one
abbrev pub code_of : Exception → Option (List ℕ)
code_of (exception.MissingParameter name) = None
code_of (exception.BadValue name) = None
code_of (exception.LayerNotDefined entry) = Some (codes "LayerNotDefined")
code_of (exception.StyleNotDefined entry) = Some (codes "StyleNotDefined")
code_of exception.InvalidCrs = Some (codes "InvalidCRS")
code_of exception.InvalidFormat = Some (codes "InvalidFormat")
code_of exception.CurrentUpdateSequence = Some (codes "CurrentUpdateSequence")
code_of exception.InvalidUpdateSequence = Some (codes "InvalidUpdateSequence")
code_of exception.OperationNotSupported = Some (codes "OperationNotSupported")
code_of exception.MapNotPublished = None

-- the message of an exception
abbrev pub words_of : Exception → List ℕ
words_of (exception.MissingParameter name) = codes "missing parameter " ++ name_of name
words_of (exception.BadValue name) = codes "bad value of " ++ name_of name
words_of (exception.LayerNotDefined entry) = codes "layer " ++ (decimal entry ++ codes " is not defined")
words_of (exception.StyleNotDefined entry) = codes "style " ++ (decimal entry ++ codes " is not defined")
words_of exception.InvalidCrs = codes "CRS is not offered"
words_of exception.InvalidFormat = codes "format is not offered"
words_of exception.CurrentUpdateSequence = codes "update sequence is current"
words_of exception.InvalidUpdateSequence = codes "update sequence is invalid"
words_of exception.OperationNotSupported = codes "operation is not supported"
words_of exception.MapNotPublished = codes "map sequence is not published here"

-- the attribute with the code, if there is one
abbrev pub code_attribute : Option (List ℕ) → List ℕ
code_attribute None = []
code_attribute (Some code) = codes " code=\"" ++ (code ++ codes "\"")

-- the report of one exception
unfoldable pub exception_report : Exception → List ℕ
exception_report e =
    line (codes "<?xml version=\"1.0\" encoding=\"UTF-8\"?>")
    ++ line (codes "<ServiceExceptionReport version=\"1.3.0\" xmlns=\"http://www.opengis.net/ogc\">")
    ++ line (codes "<ServiceException" ++ code_attribute (code_of e) ++ codes ">" ++ words_of e ++ codes "</ServiceException>")
    ++ line (codes "</ServiceExceptionReport>")
